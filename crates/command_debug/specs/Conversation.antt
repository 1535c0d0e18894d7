-- A conversation: each line of an input is answered in turn, until one asks for the end, or the input ends.
use Rattle.std.specs.Prelude.{ℕ, ◌≡◌, ◌≢◌, ◌<◌, ◌+◌, ◌⊎◌, Bool, List, [], ◌∷◌, ◌++◌, length, Option, None, Some}
use Rattle.std.specs.Io.BufRead.{drop_through, first_piece}
use Rattle.std.specs.Io.KnownBytes.{Appends}
use Rattle.debug_answers.specs.declared.command.Command.TheVariants.{Quit}
use Rattle.debug_answers.specs.Saying.{IsLineOf}
use Rattle.debugger.specs.Session.{Session}
use Rattle.debug_answers.specs.Notes.{IsNote}
use Rattle.debug_answers.specs.Replies.{IsReply}
use Rattle.command_files.specs.Fault.{IsReadingFault, IsWritingFault}
use Rattle.command_files.specs.Files.{most_bytes}
use Rattle.command_files.specs.Input.{IsOfLine, IsWithin, WhereKnown}
use Rattle.command_files.specs.World.{IsSilent, StreamFaults, Streams}
use Rattle.command_files.specs.declared.fault.Fault.{Fault}

-- how a conversation is held
pub record Terms : Type 1 where
  -- why a stream fails
  pub faults : StreamFaults
  -- whether reasons are asked for: then `why` is a command
  pub reasons : Bool

-- ---- what is read

-- the next line of the bytes says this, and then these are left: a line feed ends a line, and the last may lack it
pub record IsNextLine (said bytes rest : List ℕ) : Type 0 where
  pub some : bytes ≢ []
  pub said_is : said ≡ first_piece 10 bytes
  pub rest_is : rest ≡ drop_through 10 bytes

-- the next lines of the bytes say this, and then these are left
abbrev pub AreNextLines : List (List ℕ) → List ℕ → List ℕ → Type 0
AreNextLines [] bytes rest = rest ≡ bytes
AreNextLines (said ∷ lines) bytes rest =
    (between : List ℕ) × IsNextLine said bytes between × AreNextLines lines between rest

-- what is left ends the conversation: nothing, or a line that asks for the end
abbrev pub IsEnd : List ℕ → List ℕ → Type 0
IsEnd bytes rest =
    ((bytes ≡ []) × (rest ≡ [])) ⊎ ((said : List ℕ) × IsNextLine said bytes rest × IsLineOf Quit said)

-- through the end of the next line, there are more than 64 MiB
abbrev pub IsBeyond : List ℕ → List ℕ → Type 0
IsBeyond bytes rest = most_bytes + length (drop_through 10 rest) < length bytes

-- ---- what is answered

-- each line in turn has its answer, and none asks for the end
abbrev pub AreAnswered : Bool → Session → List (List ℕ) → Session → List ℕ → Type 0
AreAnswered reasons old [] new text = (new ≡ old) × (text ≡ [])
AreAnswered reasons old (said ∷ lines) new text =
    (between : Session) × (first : List ℕ) × (others : List ℕ) × (IsLineOf Quit said → ⊥)
    × IsReply reasons old said between first × AreAnswered reasons between lines new others × (text ≡ first ++ others)

-- standard error got a note, if there is one, or did not take it
abbrev pub IsNoted : StreamFaults → Streams → Streams → Option (List ℕ) → Type 0
IsNoted faults before after None = after.errors ≡ before.errors
IsNoted faults before after (Some note) = Appends before.errors after.errors note ⊎ faults.errors_refuse note

-- the same of the notes on each of these lines in turn, and it got nothing else
abbrev pub AreNoted : Terms → Streams → Streams → List (List ℕ) → Type 0
AreNoted terms before after [] = after.errors ≡ before.errors
AreNoted terms before after (said ∷ lines) =
    (note : Option (List ℕ)) × (between : Streams) × IsNote terms.reasons said note
    × IsNoted terms.faults before between note × AreNoted terms between after lines

-- lines were read, and answered
pub record IsExchange (terms : Terms) (before after : Streams) (old new : Session) : Type 0 where
  pub lines : List (List ℕ)
  pub read : WhereKnown (AreNextLines lines) before.input after.input
  pub text : List ℕ
  pub answered : AreAnswered terms.reasons old lines new text
  pub printed : Appends before.output after.output text
  pub noted : AreNoted terms before after lines

-- lines were read and answered to the end, which is within 64 MiB
pub record IsConversation (terms : Terms) (before after : Streams) (old : Session) : Type 0 where
  pub between : Streams
  pub new : Session
  pub exchange : IsExchange terms before between old new
  pub ended : WhereKnown IsEnd between.input after.input
  pub silent : IsSilent between after
  pub within : WhereKnown (IsWithin most_bytes) before.input after.input

-- ---- what cuts a conversation short

-- the next line was not read, since that failed, or no memory was left for it or for its answer; and nothing was
-- printed
pub record IsUnheard (failed : Type 0) (before after : Streams) (fault : Fault) : Type 0 where
  pub why : IsReadingFault failed fault
  pub taken : WhereKnown IsOfLine before.input after.input
  pub silent : IsSilent before after

-- the next line was read, and its answer was not printed; so there was no note on it
pub record IsUnsaid (terms : Terms) (before after : Streams) (old : Session) (fault : Fault) : Type 0 where
  pub said : List ℕ
  pub read : WhereKnown (IsNextLine said) before.input after.input
  pub other : IsLineOf Quit said → ⊥
  pub new : Session
  pub text : List ℕ
  pub reply : IsReply terms.reasons old said new text
  pub why : IsWritingFault (terms.faults.output_refuses text) fault
  pub silent : after.errors ≡ before.errors

-- the fault of a turn: reading failed so, or the answer was not printed
abbrev pub IsCut : Type 0 → Terms → Streams → Streams → Session → Fault → Type 0
IsCut failed terms before after old fault =
    IsUnheard failed before after fault ⊎ IsUnsaid terms before after old fault

-- lines were read and answered, and then there was this fault: the input could not be read, or its next line goes
-- beyond 64 MiB, or the answer was not printed. Of the input, what was taken is within 64 MiB
pub record IsCutShort (terms : Terms) (before after : Streams) (old : Session) (fault : Fault) : Type 0 where
  -- the streams and the debugger when the fault was met
  pub between : Streams
  pub new : Session
  pub exchange : IsExchange terms before between old new
  pub cut :
      IsCut (terms.faults.input_fails ⊎ WhereKnown IsBeyond before.input between.input) terms between after new fault
  pub within : WhereKnown (IsWithin most_bytes) before.input after.input

-- ---- a turn

-- one line was read and answered, and of the bytes that might still be read, fewer are left
pub record IsTurn (terms : Terms) (before after : Streams) (old new : Session) (left more : ℕ) : Type 0 where
  pub said : List ℕ
  pub read : WhereKnown (IsNextLine said) before.input after.input
  pub other : IsLineOf Quit said → ⊥
  pub text : List ℕ
  pub reply : IsReply terms.reasons old said new text
  pub printed : Appends before.output after.output text
  pub note : Option (List ℕ)
  pub is_note : IsNote terms.reasons said note
  pub noted : IsNoted terms.faults before after note
  pub fewer : more < left
  pub spent : WhereKnown (λ bytes rest. more + length bytes ≡ left + length rest) before.input after.input

-- the end was read, and nothing was printed
pub record IsLastTurn (before after : Streams) (left : ℕ) : Type 0 where
  pub ended : WhereKnown IsEnd before.input after.input
  pub within : WhereKnown (IsWithin left) before.input after.input
  pub silent : IsSilent before after
