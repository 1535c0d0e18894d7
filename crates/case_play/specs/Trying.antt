-- One file after another of a trial, as clauses of private functions name it. No promise rests on it.
use Rattle.std.specs.Prelude.{◌≡◌, ℕ, ◌<◌, List, Option, None, Some}
use Rattle.case_text.specs.declared.file_answer.FileAnswer.{FileAnswer}
use Rattle.case_text.specs.declared.file_case.FileCase.{FileCase}
use Rattle.case_text.specs.declared.file_case.FileKind.{FileKind}
use Rattle.case_text.specs.declared.file_stated.FileStated.{FileStated}
use Rattle.case_text.specs.declared.trial.Made.{Made}
use Rattle.case_text.specs.declared.trial.Trial.{Trial}
use Rattle.case_play.specs.declared.came.Came.{Came}
use Rattle.case_play.specs.declared.verdict.Verdict.{Verdict}
use Rattle.case_play.specs.declared.verdict.Verdict.TheVariants.{Passes, Differs, Refused}
use Rattle.case_play.specs.declared.finding.Finding.{Finding}
use Rattle.case_play.specs.Files.{file_at}
use Rattle.case_play.specs.Findings.{IsFinding}
use Rattle.case_play.specs.Trials.{IsRightOf, IsRightOfEach, FileAnswerHolds, HasNoFile, IsInFirstWrong, CameOfTrial}
use Rattle.case_play.specs.Verdicts.{TrialHolds, TrialDiffers}

-- this is found in a file, and nothing else
pub record IsOneFinding (kind : FileKind) (file : List ℕ) (finding : Finding) : Type 0 where
  pub is : IsFinding kind file finding
  pub only : (other : Finding) → IsFinding kind file other → other ≡ finding

-- an answer is right of a file; or it is not, and this is found there
abbrev pub IsTriedIn : FileKind → List ℕ → FileStated → List FileAnswer → Option Finding → Type 0
IsTriedIn kind file stated below None = IsRightOf kind file stated below
IsTriedIn kind file stated below (Some finding) =
    (IsRightOf kind file stated below → ⊥) × IsFinding kind file finding

-- the same of the file of this number; where there is none, none is wrong
abbrev pub IsTriedBy : FileKind → Option (List ℕ) → FileStated → List FileAnswer → Option Finding → Type 0
IsTriedBy kind None stated below result = result ≡ None
IsTriedBy kind (Some file) stated below result = IsTriedIn kind file stated below result

abbrev pub IsTriedAt : FileCase → Made → FileStated → List FileAnswer → ℕ → Option Finding → Type 0
IsTriedAt case made stated below n result = IsTriedBy case.kind (file_at made case.bytes n) stated below result

-- an answer is right of each file; or this is found in the first of which it is not
abbrev pub AreTried : FileCase → Made → FileStated → List FileAnswer → Option Finding → Type 0
AreTried case made stated below None = IsRightOfEach case made stated below
AreTried case made stated below (Some finding) = IsInFirstWrong case made stated below finding

-- the first file of a trial
pub record IsFirstFile (case : FileCase) (made : Made) (file : List ℕ) : Type 0 where
  pub number : ℕ
  pub stands : file_at made case.bytes number ≡ Some file
  pub before : (n : ℕ) → n < number → file_at made case.bytes n ≡ None

-- it is this, or there is none
abbrev pub IsFirstOf : FileCase → Made → Option (List ℕ) → Type 0
IsFirstOf case made None = HasNoFile case made
IsFirstOf case made (Some file) = IsFirstFile case made file

-- an answer holds; or it does not, and this came
abbrev pub IsAnswerJudged : FileCase → Made → FileAnswer → List FileAnswer → Option Came → Type 0
IsAnswerJudged case made answer below None = FileAnswerHolds case made answer below
IsAnswerJudged case made answer below (Some came) =
    (FileAnswerHolds case made answer below → ⊥) × CameOfTrial case made answer below came

-- the verdict on one trial
abbrev pub IsTrialVerdict : FileCase → Trial → Verdict → Type 0
IsTrialVerdict case trial Passes = TrialHolds case trial
IsTrialVerdict case trial (Differs line came) = TrialDiffers case trial line came
IsTrialVerdict case trial (Refused line cause) = ⊥
