-- The verdict on a trace: what the program prints of it, and how it then ends.
use Rattle.std.specs.Prelude.{ℕ, ◌≡◌, List, [], ◌++◌, codes}
use Rattle.std.specs.Fmt.{decimal}
use Rattle.std.specs.String.{string_bytes}
use Rattle.scenario_image.specs.Scenario.{Scenario}
use Rattle.trace_file.specs.declared.entry.Entry.{Entry}
use Rattle.fleet_core.specs.declared.verdict.Verdict.{Verdict}
use Rattle.fleet_core.specs.declared.verdict.Verdict.TheVariants as verdicts
use Rattle.fleet_core.specs.Verdict.{Judges}
use Rattle.command_files.specs.Answers.{files_of}
use Rattle.scenario_words.specs.Words.{ended_line}
use Rattle.command_files.specs.Loading.{IsScenarioAt, IsTraceAt, RunPaths}
use Rattle.command_files.specs.declared.answer.Answer.{Answer}
use Rattle.command_files.specs.declared.status.Status.{Status}
use Rattle.command_files.specs.declared.status.Status.TheVariants.{Done, NotRun}

-- `run`, or `not a run at N` with the least place at which the entries break off
abbrev pub verdict_line : Verdict → List ℕ
verdict_line verdicts.Run = ended_line (codes "run")
verdict_line (verdicts.NotRun place) = ended_line (codes "not a run at " ++ decimal place)

abbrev pub verdict_status : Verdict → Status
verdict_status verdicts.Run = Done
verdict_status (verdicts.NotRun place) = NotRun

-- the file at the path is the trace file of some entries, and the verdict on them is right
pub record IsVerdictAt (holds : List ℕ → List ℕ → Type 0) (path : List ℕ) (s : Scenario) (verdict : Verdict)
    : Type 0 where
  pub entries : List Entry
  pub read : IsTraceAt holds path entries
  pub judged : Judges s entries verdict

-- the answer is the verdict on the entries: its line, and the status
pub record IsJudged (s : Scenario) (es : List Entry) (answer : Answer) : Type 0 where
  pub verdict : Verdict
  pub judged : Judges s es verdict
  pub text_is : string_bytes answer.text ≡ verdict_line verdict
  pub status_is : answer.status ≡ verdict_status verdict

-- `check IMAGE TRACE`: the verdict on the entries
pub record IsCheckDone (holds : List ℕ → List ℕ → Type 0) (paths : RunPaths) (answer : Answer) : Type 0 where
  pub scenario : Scenario
  pub found : IsScenarioAt holds paths.image scenario
  pub entries : List Entry
  pub read : IsTraceAt holds paths.trace entries
  pub judged : IsJudged scenario entries answer
  pub made_is : files_of answer.file ≡ []
