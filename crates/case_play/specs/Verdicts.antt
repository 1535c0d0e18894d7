-- When a case of a file passes, and the first line that does not hold.
use Rattle.std.specs.Prelude.{◌≡◌, ℕ, ◌+◌, ◌<◌, drop, Some, slice_get}
use Rattle.case_text.specs.declared.case.Case.{Case}
use Rattle.case_text.specs.declared.case.Case.TheVariants.{Scenario, File}
use Rattle.case_text.specs.declared.file_answer.FileAnswer.{FileAnswer}
use Rattle.case_text.specs.declared.file_case.FileCase.{FileCase}
use Rattle.case_text.specs.declared.trial.Trial.{Trial}
use Rattle.case_play.specs.Cases.{IsVerdict}
use Rattle.case_play.specs.declared.came.Came.{Came}
use Rattle.case_play.specs.declared.verdict.Verdict.{Verdict}
use Rattle.case_play.specs.declared.verdict.Verdict.TheVariants.{Passes, Differs, Refused}
use Rattle.case_play.specs.Trials.{CameOfTrial, FileAnswerHolds}

-- each answer of a trial holds
abbrev pub TrialHolds : FileCase → Trial → Type 0
TrialHolds case trial =
    (i : ℕ) (answer : FileAnswer) → slice_get trial.answers i ≡ Some answer
    → FileAnswerHolds case trial.made answer (drop (i + 1) trial.answers)

-- this is the line of the first answer of a trial that does not hold, and this came
pub record TrialDiffers (case : FileCase) (trial : Trial) (line : ℕ) (came : Came) : Type 0 where
  pub place : ℕ
  pub answer : FileAnswer
  pub stands : slice_get trial.answers place ≡ Some answer
  pub above : (i : ℕ) (other : FileAnswer) → i < place → slice_get trial.answers i ≡ Some other
      → FileAnswerHolds case trial.made other (drop (i + 1) trial.answers)
  pub wrong : FileAnswerHolds case trial.made answer (drop (place + 1) trial.answers) → ⊥
  pub instead : CameOfTrial case trial.made answer (drop (place + 1) trial.answers) came
  pub named : line ≡ answer.line

-- each answer of each trial holds
abbrev pub TrialsHold : FileCase → Type 0
TrialsHold case = (k : ℕ) (trial : Trial) → slice_get case.trials k ≡ Some trial → TrialHolds case trial

-- this is the line of the first answer that does not hold, in the first trial with such a one, and this came
pub record FileDiffers (case : FileCase) (line : ℕ) (came : Came) : Type 0 where
  pub place : ℕ
  pub trial : Trial
  pub stands : slice_get case.trials place ≡ Some trial
  pub above : (k : ℕ) (other : Trial) → k < place → slice_get case.trials k ≡ Some other → TrialHolds case other
  pub first : TrialDiffers case trial line came

-- the verdict on a case of a file. It passes exactly if each answer holds. Else this is the first line that does not,
-- and what came
abbrev pub IsFileVerdict : FileCase → Verdict → Type 0
IsFileVerdict case Passes = TrialsHold case
IsFileVerdict case (Differs line came) = FileDiffers case line came
IsFileVerdict case (Refused line cause) = ⊥

-- the verdict on a case
abbrev pub IsCaseVerdict : Case → Verdict → Type 0
IsCaseVerdict (Scenario case) verdict = IsVerdict case verdict
IsCaseVerdict (File case) verdict = IsFileVerdict case verdict
