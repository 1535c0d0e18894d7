-- Which word of a refused line is to blame. A reader of lines says why their words are refused, if they are.
use Rattle.std.specs.Prelude.{ℕ, ◌≡◌, ◌≢◌, ◌<◌, ◌≤◌, ◌-◌, ◌⊎◌, List, [], ◌∷◌, ◌++◌, length, Option, None, Some}
use Rattle.std.specs.Prelude.{Result, Ok, Err, slice_get}
use Rattle.std.specs.Option.{unwrap_or}
use Rattle.std.specs.Str.{IsUtf8}
use Rattle.std.specs.String.{string_bytes}
use Rattle.scenario_words.specs.declared.cause.Cause.{Cause}
use Rattle.scenario_words.specs.declared.cause.Cause.TheVariants.{Missing}
use Rattle.scenario_words.specs.declared.cause.Cause.TheVariants as kinds
use Rattle.scenario_words.specs.Words.{lines, words}
use Rattle.scenario_statements.specs.Grammar.{statement_of}
use Rattle.scenario_asm.specs.declared.fault.TextFault.{TextFault}
use Rattle.command_files.specs.declared.fault.Fault.{Fault}
use Rattle.command_files.specs.declared.fault.Fault.TheVariants.{Memory, Text}
use Rattle.command_files.specs.declared.refusal.Why.{Why}
use Rattle.command_files.specs.declared.refusal.Why.TheVariants.{Line, Named, Word}

-- ---- words of a line

-- the words are refused for this cause. A line that is cut short may always lack a word
pub record AreRefusedFor (causes : List (List ℕ) → Option Cause) (cause : Cause) (ws : List (List ℕ)) : Type 0 where
  pub is : causes ws ≡ Some cause
  pub more : cause ≢ Missing

-- up to none of these words, from the first on, are they refused for this cause
pub record HaveNoWrongWord (causes : List (List ℕ) → Option Cause) (cause : Cause) (ws : List (List ℕ)) : Type 0 where
  pub none : (before : List (List ℕ)) (word : List ℕ) (behind : List (List ℕ)) → ws ≡ before ++ word ∷ behind
      → AreRefusedFor causes cause (before ++ word ∷ []) → ⊥

-- up to this word they are, and up to none before it
pub record IsWrongWord (causes : List (List ℕ) → Option Cause) (cause : Cause) (ws : List (List ℕ)) (word : List ℕ)
    : Type 0 where
  pub before : List (List ℕ)
  pub behind : List (List ℕ)
  pub cut : ws ≡ before ++ word ∷ behind
  pub refused : AreRefusedFor causes cause (before ++ word ∷ [])
  pub earlier : HaveNoWrongWord causes cause before

-- ---- what is shown

-- the line of this number, counted from 1; where there is none it is empty
abbrev pub line_at : List ℕ → ℕ → List ℕ
line_at text number = unwrap_or (slice_get (lines text) (number - 1)) []

-- bytes that are shown: UTF-8, not empty and at most 200 bytes
pub record IsShown (bytes : List ℕ) : Type 0 where
  pub utf8 : IsUtf8 bytes
  pub some : 0 < length bytes
  pub short : length bytes ≤ 200

-- what is said of a word that is to blame: the word; the fault alone, where it is not shown
abbrev pub IsSaidOfWord : List ℕ → Why → Type 0
IsSaidOfWord word (Word text) = (string_bytes text ≡ word) × IsShown word
IsSaidOfWord word Named = IsShown word → ⊥
IsSaidOfWord word _ = ⊥

-- and of a line, where none of its words is
abbrev pub IsSaidOfLine : List ℕ → Why → Type 0
IsSaidOfLine line (Line text) = (string_bytes text ≡ line) × IsShown line
IsSaidOfLine line Named = IsShown line → ⊥
IsSaidOfLine line _ = ⊥

-- what is said of a line that is refused for this cause: the first word up to which it is, or else the line
abbrev pub IsBlamedIn : (List (List ℕ) → Option Cause) → Cause → List ℕ → Why → Type 0
IsBlamedIn causes cause line why =
    ((word : List ℕ) × IsWrongWord causes cause (words line) word × IsSaidOfWord word why)
    ⊎ (HaveNoWrongWord causes cause (words line) × IsSaidOfLine line why)

-- the same of the line of a text that has this fault
abbrev pub IsBlamed : (List (List ℕ) → Option Cause) → List ℕ → TextFault → Why → Type 0
IsBlamed causes text fault why = IsBlamedIn causes fault.cause (line_at text fault.line) why

-- a text is refused for its fault, and this is said of it; or memory ran out
abbrev pub IsRefusedText : (List (List ℕ) → Option Cause) → List ℕ → TextFault → Fault → Why → Type 0
IsRefusedText causes text fault refused why =
    ((fault.cause ≢ kinds.Memory) × (refused ≡ Text fault) × IsBlamed causes text fault why)
    ⊎ ((refused ≡ Memory) × (why ≡ Named))

-- ---- lines of scenario text

-- why a reading failed, if it did
abbrev pub cause_in : {X : Type 0} → Result X Cause → Option Cause
cause_in (Ok x) = None
cause_in (Err cause) = Some cause

-- why words are refused that are to be a statement
abbrev pub statement_cause : List (List ℕ) → Option Cause
statement_cause ws = cause_in (statement_of ws)
