-- One turn of a conversation, put together from what was read, answered and printed.
use Rattle.std.proofs.Common.{ℕ, ◌≡◌, ◌≢◌, ◌<◌, ◌≤◌, ◌+◌, ◌-◌, List, [], ◌∷◌, ◌++◌, length, Option, None, Some}
use Rattle.std.proofs.Common.{IfSome}
use Rattle.std.proofs.Common.{refl, sym, ap, subst, arith, ◌∙◌, Bool, true, false, cond, eqb, inl, inr}
use Rattle.std.specs.Io.BufRead.{DropsThrough, drop_through, strip_last, take_through}
use Rattle.std.specs.Io.KnownBytes.{Appends}
use Rattle.std.proofs.BufReadLemmas.{take_through-nil}
use Rattle.debug_answers.specs.declared.command.Command.TheVariants.{Quit}
use Rattle.debug_answers.specs.Saying.{IsLineOf}
use Rattle.debugger.specs.Session.{Session}
use Rattle.debug_answers.specs.Notes.{IsNote}
use Rattle.debug_answers.specs.Replies.{IsReply}
use Rattle.command_debug.specs.Conversation.{IsCut, IsEnd, IsLastTurn, IsNextLine, IsNoted, IsTurn, Terms}
use Rattle.command_files.proofs.Lines.{through_all}
use Rattle.command_files.specs.Fault.{IsReadingFault, IsWritingFault}
use Rattle.command_files.specs.Input.{IsOfLine, IsWithin, WhereKnown}
use Rattle.command_files.specs.World.{IsSilent, StreamFaults, Streams}
use Rattle.command_files.specs.declared.fault.Fault.{Fault}

-- the first line of bytes and what follows it are all of them
pub parts : (bytes : List ℕ) → length (take_through 10 bytes) + length (drop_through 10 bytes) ≡ length bytes
parts [] = refl
parts (x ∷ xs) = by (eqb x 10) (parts xs)
  where
    by : (b : Bool) → length (take_through 10 xs) + length (drop_through 10 xs) ≡ length xs
        → length (cond b (x ∷ []) (x ∷ take_through 10 xs)) + length (cond b xs (drop_through 10 xs)) ≡ length (x ∷ xs)
    by true same = omega arith
    by false same = omega (arith, same)

-- bytes whose first line has a byte are some
some_bytes : (line bytes : List ℕ) → line ≡ take_through 10 bytes → 0 < length line → bytes ≢ []
some_bytes line bytes same some none =
    absurd (omega (arith, some, ap length (same ∙ ap (take_through 10) none)))

-- a line that has a byte is the next one
next_line : (before after : Option (List ℕ)) (line said : List ℕ)
    → IfSome before (λ bytes. line ≡ take_through 10 bytes)
    → DropsThrough before after 10 → said ≡ strip_last 10 line → 0 < length line
    → WhereKnown (IsNextLine said) before after
next_line None after line said is rest bare some = tt
next_line (Some bytes) after line said is rest bare some =
    subst (λ a. WhereKnown (IsNextLine said) (Some bytes) a) (sym rest) (record {
      some = some_bytes line bytes is some;
      said_is = bare ∙ ap (strip_last 10) is;
      rest_is = refl;
    })

-- what was read is within what may be read
pub within_left : (before after : Option (List ℕ)) (line : List ℕ) (left : ℕ)
    → IfSome before (λ bytes. line ≡ take_through 10 bytes) → DropsThrough before after 10 → length line ≤ left
    → WhereKnown (IsWithin left) before after
within_left None after line left is rest fits = tt
within_left (Some bytes) after line left is rest fits =
    subst (λ a. WhereKnown (IsWithin left) (Some bytes) a) (sym rest)
    (omega (arith, fits, ap length is, parts bytes))

-- what may still be read is less by what was read
spent_by : (before after : Option (List ℕ)) (line : List ℕ) (left more : ℕ)
    → IfSome before (λ bytes. line ≡ take_through 10 bytes) → DropsThrough before after 10 → length line ≤ left
    → more ≡ left - length line → WhereKnown (λ bytes rest. more + length bytes ≡ left + length rest) before after
spent_by None after line left more is rest fits same = tt
spent_by (Some bytes) after line left more is rest fits same =
    subst (λ a. WhereKnown (λ bytes rest. more + length bytes ≡ left + length rest) (Some bytes) a) (sym rest)
    (omega (arith, fits, same, ap length is, parts bytes))

-- a line that was read is all of the next line
pub line_of_line : (before after : Option (List ℕ)) → DropsThrough before after 10 → WhereKnown IsOfLine before after
line_of_line None after rest = tt
line_of_line (Some bytes) after rest =
    subst (λ a. WhereKnown IsOfLine (Some bytes) a) (sym rest)
    (take_through 10 bytes, sym (through_all bytes), omega arith)

-- nothing was read: the input is at its end
pub at_end : (before after : Streams) (line : List ℕ) (left : ℕ)
    → IfSome before.input (λ bytes. line ≡ take_through 10 bytes) → DropsThrough before.input after.input 10
    → length line ≡ 0 → IsSilent before after → IsLastTurn before after left
at_end before after line left is rest none silent =
    record {
      ended = last before.input after.input is rest;
      within = within_left before.input after.input line left is rest (omega (arith, none));
      silent = silent;
    }
  where
    last : (a b : Option (List ℕ)) → IfSome a (λ bytes. line ≡ take_through 10 bytes) → DropsThrough a b 10
        → WhereKnown IsEnd a b
    last None b is rest = tt
    last (Some bytes) b is rest =
        let empty : bytes ≡ [] = take_through-nil 10 bytes (sym (ap length is) ∙ none) in
        subst (λ r. WhereKnown IsEnd (Some bytes) r) (sym rest) (inl (empty, ap (drop_through 10) empty))

-- the line that was read asks for the end
pub at_quit : (before after : Streams) (line said : List ℕ) (left : ℕ)
    → IfSome before.input (λ bytes. line ≡ take_through 10 bytes) → DropsThrough before.input after.input 10
    → said ≡ strip_last 10 line → 0 < length line → length line ≤ left → IsLineOf Quit said → IsSilent before after
    → IsLastTurn before after left
at_quit before after line said left is rest bare some fits asks silent =
    record {
      ended = last before.input after.input (next_line before.input after.input line said is rest bare some);
      within = within_left before.input after.input line left is rest fits;
      silent = silent;
    }
  where
    last : (a b : Option (List ℕ)) → WhereKnown (IsNextLine said) a b → WhereKnown IsEnd a b
    last None b next = tt
    last (Some bytes) None next = absurd next
    last (Some bytes) (Some rest) next = inr (said, next, asks)

-- a note, after which standard error has what it had before something else
pub noted_after : (faults : StreamFaults) (a b c : Streams) (note : Option (List ℕ)) → b.errors ≡ a.errors
    → IsNoted faults b c note → IsNoted faults a c note
noted_after faults a b c None same silent = silent ∙ same
noted_after faults a b c (Some note) same (inl printed) =
    inl (subst (λ errors. Appends errors c.errors note) same printed)
noted_after faults a b c (Some note) same (inr refused) = inr refused

-- a line was read and answered
pub turn : (terms : Terms) (before between after : Streams) (old new : Session) (line said text : List ℕ)
    (note : Option (List ℕ)) (left more : ℕ)
    → IfSome before.input (λ bytes. line ≡ take_through 10 bytes) → DropsThrough before.input after.input 10
    → said ≡ strip_last 10 line → 0 < length line → length line ≤ left → more ≡ left - length line
    → (IsLineOf Quit said → ⊥) → IsReply terms.reasons old said new text → Appends before.output after.output text
    → IsNote terms.reasons said note → between.errors ≡ before.errors → IsNoted terms.faults between after note
    → IsTurn terms before after old new left more
turn terms before between after old new line said text note left more is rest bare some fits same other reply printed
    is_note quiet noted =
    record {
      said = said;
      read = next_line before.input after.input line said is rest bare some;
      other = other;
      text = text;
      reply = reply;
      printed = printed;
      note = note;
      is_note = is_note;
      noted = noted_after terms.faults before between after note quiet noted;
      fewer = omega (arith, some, fits, same);
      spent = spent_by before.input after.input line left more is rest fits same;
    }

-- the next line was not read
pub unheard : (failed : Type 0) (terms : Terms) (before after : Streams) (old : Session) (fault : Fault)
    → IsReadingFault failed fault → WhereKnown IsOfLine before.input after.input → IsSilent before after
    → IsCut failed terms before after old fault
unheard failed terms before after old fault why taken silent =
    inl (record { why = why; taken = taken; silent = silent })

-- the answer to the line was not printed
pub unsaid : (failed : Type 0) (terms : Terms) (before after : Streams) (old new : Session)
    (line said text : List ℕ) (fault : Fault)
    → IfSome before.input (λ bytes. line ≡ take_through 10 bytes) → DropsThrough before.input after.input 10
    → said ≡ strip_last 10 line → 0 < length line → (IsLineOf Quit said → ⊥)
    → IsReply terms.reasons old said new text
    → IsWritingFault (terms.faults.output_refuses text) fault → after.errors ≡ before.errors
    → IsCut failed terms before after old fault
unsaid failed terms before after old new line said text fault is rest bare some other reply why silent =
    inr (record {
      said = said;
      read = next_line before.input after.input line said is rest bare some;
      other = other;
      new = new;
      text = text;
      reply = reply;
      why = why;
      silent = silent;
    })
