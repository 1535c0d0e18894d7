-- A conversation, put together from its turns.
use Rattle.std.proofs.Common.{ℕ, ◌≡◌, ◌+◌, ◌⊎◌, Bool, List, [], ◌∷◌, ◌++◌, length, Option, None, Some}
use Rattle.std.proofs.Common.{refl, sym, ap, subst, arith, ◌∙◌, inl, inr, append_assoc, append-nil}
use Rattle.std.proofs.KnownBytes.{Appends-nil, Appends-trans}
use Rattle.debug_answers.specs.declared.command.Command.TheVariants.{Quit}
use Rattle.debug_answers.specs.Saying.{IsLineOf}
use Rattle.debugger.specs.Session.{Session}
use Rattle.debug_answers.specs.Notes.{IsNote}
use Rattle.debug_answers.specs.Replies.{IsReply}
use Rattle.command_debug.proofs.Turns.{noted_after, parts}
use Rattle.command_debug.specs.Conversation.{AreAnswered, AreNextLines, AreNoted, IsBeyond, IsConversation, IsCut}
use Rattle.command_debug.specs.Conversation.{IsCutShort, IsExchange, IsLastTurn, IsNextLine, IsNoted, IsTurn}
use Rattle.command_debug.specs.Conversation.{Terms}
use Rattle.command_files.specs.Fault.{IsReadingFault}
use Rattle.command_files.specs.Files.{most_bytes}
use Rattle.command_files.specs.Input.{IsLonger, IsWithin, WhereKnown}
use Rattle.command_files.specs.World.{Streams}
use Rattle.command_files.specs.declared.fault.Fault.{Fault}
use Rattle.command_files.specs.declared.fault.Fault.TheVariants as faults

-- of the bytes that might be read at first, this many may still be
abbrev pub IsSpent : Option (List ℕ) → Option (List ℕ) → ℕ → ℕ → Type 0
IsSpent before after most left = WhereKnown (λ bytes rest. left + length bytes ≡ most + length rest) before after

-- ---- one line more

more_lines : (lines : List (List ℕ)) (said bytes between rest : List ℕ) → AreNextLines lines bytes between
    → IsNextLine said between rest → AreNextLines (lines ++ said ∷ []) bytes rest
more_lines [] said bytes between rest same next =
    (rest, subst (λ b. IsNextLine said b rest) same next, refl)
more_lines (first ∷ lines) said bytes between rest (middle, now, then) next =
    (middle, now, more_lines lines said middle between rest then next)

more_answers : (reasons : Bool) (old : Session) (lines : List (List ℕ)) (between new : Session)
    (text said more : List ℕ)
    → AreAnswered reasons old lines between text → (IsLineOf Quit said → ⊥) → IsReply reasons between said new more
    → AreAnswered reasons old (lines ++ said ∷ []) new (text ++ more)
more_answers reasons old [] between new text said more (same, none) other reply = (
  new,
  more,
  [],
  other,
  subst (λ s. IsReply reasons s said new more) same reply,
  (refl, refl),
  ap (λ t. t ++ more) none ∙ sym (append-nil more),
)
more_answers reasons old (first ∷ lines) between new text said more
    (middle, now, then, plain, answer, rest, split) other reply = (
      middle,
      now,
      then ++ more,
      plain,
      answer,
      more_answers reasons middle lines between new then said more rest other reply,
      ap (λ t. t ++ more) split ∙ append_assoc now then more,
    )

more_notes : (terms : Terms) (a b c : Streams) (lines : List (List ℕ)) (said : List ℕ)
    (note : Option (List ℕ)) → AreNoted terms a b lines → IsNote terms.reasons said note
    → IsNoted terms.faults b c note → AreNoted terms a c (lines ++ said ∷ [])
more_notes terms a b c [] said note same is noted =
    (note, c, is, noted_after terms.faults a b c note same noted, refl)
more_notes terms a b c (first ∷ lines) said note (now, middle, is_now, got, then) is noted =
    (now, middle, is_now, got, more_notes terms middle b c lines said note then is noted)

more_read : (a b c : Option (List ℕ)) (lines : List (List ℕ)) (said : List ℕ) → WhereKnown (AreNextLines lines) a b
    → WhereKnown (IsNextLine said) b c → WhereKnown (AreNextLines (lines ++ said ∷ [])) a c
more_read None b c lines said before next = tt
more_read (Some x) None c lines said before next = absurd before
more_read (Some x) (Some y) None lines said before next = absurd next
more_read (Some x) (Some y) (Some z) lines said before next = more_lines lines said x y z before next

more_spent : (a b c : Option (List ℕ)) (most left more : ℕ) → IsSpent a b most left → IsSpent b c left more
    → IsSpent a c most more
more_spent None b c most left more before next = tt
more_spent (Some x) None c most left more before next = absurd before
more_spent (Some x) (Some y) None most left more before next = absurd next
more_spent (Some x) (Some y) (Some z) most left more before next = omega (arith, before, next)

-- ---- from the first turn to the last

pub begun : (terms : Terms) (a : Streams) (session : Session) → IsExchange terms a a session session
begun terms a session =
    record {
      lines = [];
      read = same a.input;
      text = [];
      answered = (refl, refl);
      printed = Appends-nil a.output;
      noted = refl;
    }
  where
    same : (i : Option (List ℕ)) → WhereKnown (AreNextLines []) i i
    same None = tt
    same (Some x) = refl

pub none_spent : (input : Option (List ℕ)) (most : ℕ) → IsSpent input input most most
none_spent None most = tt
none_spent (Some x) most = refl

pub go_on : (terms : Terms) (a b c : Streams) (old between new : Session) (left more : ℕ)
    → IsExchange terms a b old between → IsTurn terms b c between new left more → IsExchange terms a c old new
go_on terms a b c old between new left more so_far turn =
    record {
      lines = so_far.lines ++ turn.said ∷ [];
      read = more_read a.input b.input c.input so_far.lines turn.said so_far.read turn.read;
      text = so_far.text ++ turn.text;
      answered =
          more_answers terms.reasons old so_far.lines between new so_far.text turn.said turn.text so_far.answered
          turn.other turn.reply;
      printed = Appends-trans a.output b.output c.output so_far.text turn.text so_far.printed turn.printed;
      noted =
          more_notes terms a b c so_far.lines turn.said turn.note so_far.noted turn.is_note turn.noted;
    }

pub spend : (terms : Terms) (a : Option (List ℕ)) (b c : Streams) (old new : Session) (most left more : ℕ)
    → IsSpent a b.input most left → IsTurn terms b c old new left more → IsSpent a c.input most more
spend terms a b c old new most left more so_far turn =
    more_spent a b.input c.input most left more so_far turn.spent

-- what was taken in all is within what might be taken
within_all : (a b c : Option (List ℕ)) (left : ℕ) → IsSpent a b most_bytes left → WhereKnown (IsWithin left) b c
    → WhereKnown (IsWithin most_bytes) a c
within_all None b c left spent within = tt
within_all (Some x) None c left spent within = absurd spent
within_all (Some x) (Some y) None left spent within = absurd within
within_all (Some x) (Some y) (Some z) left spent within = omega (arith, spent, within)

pub conversed : (terms : Terms) (a b c : Streams) (old new : Session) (left : ℕ)
    → IsExchange terms a b old new → IsSpent a.input b.input most_bytes left → IsLastTurn b c left
    → IsConversation terms a c old
conversed terms a b c old new left so_far spent last =
    record {
      between = b;
      new = new;
      exchange = so_far;
      ended = last.ended;
      silent = last.silent;
      within = within_all a.input b.input c.input left spent last.within;
    }

-- ---- cut short

beyond : (a b : Option (List ℕ)) (left : ℕ) → IsSpent a b most_bytes left → IsLonger left b → WhereKnown IsBeyond a b
beyond None b left spent long = tt
beyond (Some x) None left spent long = absurd spent
beyond (Some x) (Some y) left spent long = omega (arith, spent, long, parts y)

unread : (fails : Type 0) (a b : Option (List ℕ)) (left : ℕ) → IsSpent a b most_bytes left → fails ⊎ IsLonger left b
    → fails ⊎ WhereKnown IsBeyond a b
unread fails a b left spent (inl failed) = inl failed
unread fails a b left spent (inr long) = inr (beyond a b left spent long)

reading : (P Q : Type 0) (fault : Fault) → (P → Q) → IsReadingFault P fault → IsReadingFault Q fault
reading P Q faults.Memory f h = tt
reading P Q faults.Read f h = f h
reading P Q faults.Hex f h = absurd h
reading P Q faults.Write f h = absurd h
reading P Q (faults.Layout fault) f h = absurd h
reading P Q (faults.Text fault) f h = absurd h
reading P Q faults.TooLarge f h = absurd h
reading P Q (faults.Template fault) f h = absurd h
reading P Q faults.Workers f h = absurd h
reading P Q faults.Batch f h = absurd h
reading P Q faults.Spent f h = absurd h
reading P Q faults.NoDevice f h = absurd h
reading P Q faults.PastEnd f h = absurd h
reading P Q faults.Range f h = absurd h
reading P Q faults.TooLong f h = absurd h
reading P Q faults.Bind f h = absurd h
reading P Q faults.Wire f h = absurd h
reading P Q (faults.Session fault) f h = absurd h
reading P Q (faults.Cases fault) f h = absurd h
reading P Q faults.NoSuchCase f h = absurd h
reading P Q faults.NoDatagram f h = absurd h
reading P Q faults.OtherClasses f h = absurd h
reading P Q faults.Slices f h = absurd h

pub cut_short : (terms : Terms) (a b c : Streams) (old new : Session) (left : ℕ) (fault : Fault)
    → IsExchange terms a b old new → IsSpent a.input b.input most_bytes left
    → IsCut (terms.faults.input_fails ⊎ IsLonger left b.input) terms b c new fault
    → WhereKnown (IsWithin left) b.input c.input → IsCutShort terms a c old fault
cut_short terms a b c old new left fault so_far spent cut within =
    record {
      between = b;
      new = new;
      exchange = so_far;
      cut = so cut;
      within = within_all a.input b.input c.input left spent within;
    }
  where
    so : IsCut (terms.faults.input_fails ⊎ IsLonger left b.input) terms b c new fault
        → IsCut (terms.faults.input_fails ⊎ WhereKnown IsBeyond a.input b.input) terms b c new fault
    so (inl unheard) =
        inl (record {
          why =
              reading (terms.faults.input_fails ⊎ IsLonger left b.input)
              (terms.faults.input_fails ⊎ WhereKnown IsBeyond a.input b.input) fault
              (unread terms.faults.input_fails a.input b.input left spent) unheard.why;
          taken = unheard.taken;
          silent = unheard.silent;
        })
    so (inr unsaid) = inr unsaid
