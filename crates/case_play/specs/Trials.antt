-- When an answer of a trial holds, and what came where it does not.
use Rattle.std.specs.Prelude.{◌≡◌, ℕ, ◌<◌, ◌⊎◌, Bool, true, false, List, None, Some}
use Rattle.case_text.specs.declared.file_answer.FileAnswer.{FileAnswer}
use Rattle.case_text.specs.declared.file_case.FileCase.{FileCase}
use Rattle.case_text.specs.declared.file_case.FileKind.{FileKind}
use Rattle.case_text.specs.declared.file_stated.FileStated.{FileStated}
use Rattle.case_text.specs.declared.trial.Made.{Made}
use Rattle.case_play.specs.declared.came.Came.{Came}
use Rattle.case_play.specs.declared.came.Came.TheVariants.{Nowhere}
use Rattle.case_play.specs.declared.finding.Finding.{Finding}
use Rattle.case_play.specs.Answers.{is_line, StatesFinding}
use Rattle.case_play.specs.Arrivals.{FindingCame}
use Rattle.case_play.specs.Files.{file_at}
use Rattle.case_play.specs.Findings.{IsFinding}

-- an answer, above these others, is right of a file: it states what is found there
abbrev pub IsRightOf : FileKind → List ℕ → FileStated → List FileAnswer → Type 0
IsRightOf kind file stated below =
    (finding : Finding) × IsFinding kind file finding × StatesFinding kind file stated below finding

-- it is right of each file of a trial
abbrev pub IsRightOfEach : FileCase → Made → FileStated → List FileAnswer → Type 0
IsRightOfEach case made stated below =
    (n : ℕ) (file : List ℕ) → file_at made case.bytes n ≡ Some file → IsRightOf case.kind file stated below

abbrev pub TurnedBy : Bool → Type 0 → Type 0
TurnedBy false right = right
TurnedBy true right = right → ⊥

-- a trial has a file; an answer is right of each, or, where it must not come, it is not
pub record HoldsOfFiles (case : FileCase) (made : Made) (answer : FileAnswer) (below : List FileAnswer) : Type 0 where
  pub number : ℕ
  pub file : List ℕ
  pub stands : file_at made case.bytes number ≡ Some file
  pub right : TurnedBy answer.must_not (IsRightOfEach case made answer.stated below)

abbrev pub UnlessLine : Bool → Type 0 → Type 0
UnlessLine true holds = Unit {0}
UnlessLine false holds = holds

-- an answer holds, or is a line of what the answer above it states
abbrev pub FileAnswerHolds : FileCase → Made → FileAnswer → List FileAnswer → Type 0
FileAnswerHolds case made answer below = UnlessLine (is_line answer.stated) (HoldsOfFiles case made answer below)

-- ---- what came

-- a trial has no file
abbrev pub HasNoFile : FileCase → Made → Type 0
HasNoFile case made = (n : ℕ) → file_at made case.bytes n ≡ None

-- this is found in the first file of which an answer is not right
pub record IsInFirstWrong (case : FileCase) (made : Made) (stated : FileStated) (below : List FileAnswer)
    (finding : Finding) : Type 0 where
  pub number : ℕ
  pub file : List ℕ
  pub stands : file_at made case.bytes number ≡ Some file
  pub before : (n : ℕ) (other : List ℕ) → n < number → file_at made case.bytes n ≡ Some other
      → IsRightOf case.kind other stated below
  pub wrong : IsRightOf case.kind file stated below → ⊥
  pub found : IsFinding case.kind file finding

-- this is found in the first file
pub record IsInFirst (case : FileCase) (made : Made) (finding : Finding) : Type 0 where
  pub number : ℕ
  pub file : List ℕ
  pub stands : file_at made case.bytes number ≡ Some file
  pub before : (n : ℕ) → n < number → file_at made case.bytes n ≡ None
  pub found : IsFinding case.kind file finding

-- what is found in the file that shows that an answer does not hold: the first of which it is not right; or the first
-- of all where it must not come, and is right of each
abbrev pub IsTelling : Bool → FileCase → Made → FileStated → List FileAnswer → Finding → Type 0
IsTelling false case made stated below finding = IsInFirstWrong case made stated below finding
IsTelling true case made stated below finding = IsRightOfEach case made stated below × IsInFirst case made finding

-- what came where an answer does not hold: there is no file, or that of this finding
abbrev pub CameOfTrial : FileCase → Made → FileAnswer → List FileAnswer → Came → Type 0
CameOfTrial case made answer below came =
    (HasNoFile case made × (came ≡ Nowhere))
    ⊎ ((finding : Finding) × IsTelling answer.must_not case made answer.stated below finding
    × FindingCame answer.stated finding came)
