-- What is answered to the words that are about scenarios: `asm`, `dis`, `run` and `check --json`; what each prints, the
-- file that it makes, how it ends, and what is refused. What `check` comes to is said of verdicts (command_files).
--
-- Two relations say what is known of the files: `holds path bytes`, the file at the path had these bytes when it was
-- read; `fails path`, it could not be read.
use Rattle.std.specs.Prelude.{ℕ, ◌≡◌, ◌⊎◌, List, [], ◌∷◌, Option}
use Rattle.std.specs.String.{string_bytes}
use Rattle.scenario_image.specs.Scenario.{Scenario}
use Rattle.scenario_image.specs.Image.{IsImageIn}
use Rattle.scenario_asm.specs.Canonical as canonical
use Rattle.trace_file.specs.declared.entry.Entry.{Entry}
use Rattle.fleet_core.specs.declared.verdict.Verdict.{Verdict}
use Rattle.fleet_core.specs.Verdict.{Judges}
use Rattle.trace_json.specs.Notes.{verdict_json}
use Rattle.trace_json.specs.Writing.{json_line}
use Rattle.command_files.specs.Answers.{files_of}
use Rattle.command_files.specs.Loading.{IsImageFault, IsScenarioAt, IsTraceAt, IsWorkFault, RunPaths}
use Rattle.command_files.specs.Verdicts.{verdict_status}
use Rattle.command_files.specs.declared.answer.Answer.{Answer}
use Rattle.command_files.specs.declared.fault.Fault.{Fault}
use Rattle.command_files.specs.declared.status.Status.TheVariants.{Done}
use Rattle.command_scenarios.specs.RunAnswer.{IsRunAnswer, IsRunFault, RunOptions}
use Rattle.command_scenarios.specs.Texts.{count_line}
use Rattle.command_texts.specs.Texts.{IsTextAt}

-- the paths of a scenario's text and of its image
pub record TextPaths : Type 0 where
  pub text : List ℕ
  pub image : List ℕ

-- `asm IN OUT`: the scenario that the text denotes, and its image of version 2, which goes to OUT
pub record IsAsmDone (holds : List ℕ → List ℕ → Type 0) (paths : TextPaths) (answer : Answer) : Type 0 where
  pub scenario : Scenario
  pub found : IsTextAt holds paths.text scenario
  pub bytes : List ℕ
  pub image : IsImageIn 2 bytes scenario
  pub text_is : string_bytes answer.text ≡ count_line scenario
  pub status_is : answer.status ≡ Done
  pub made_is : files_of answer.file ≡ (record { path = paths.image; bytes = bytes }) ∷ []

-- `dis IN`: the scenario's canonical text
pub record IsDisDone (holds : List ℕ → List ℕ → Type 0) (input : List ℕ) (answer : Answer) : Type 0 where
  pub scenario : Scenario
  pub found : IsScenarioAt holds input scenario
  pub text_is : string_bytes answer.text ≡ canonical.text_of_scenario scenario
  pub status_is : answer.status ≡ Done
  pub made_is : files_of answer.file ≡ []

-- `run IMAGE [--workers N] [--batch N] [--trace FILE]`: a run of the scenario that is made by these options, and whose
-- trace file goes to the path, if there is one
pub record IsRunDone (holds : List ℕ → List ℕ → Type 0) (image : List ℕ) (options : RunOptions)
    (trace : Option (List ℕ)) (answer : Answer) : Type 0 where
  pub scenario : Scenario
  pub found : IsScenarioAt holds image scenario
  pub run : IsRunAnswer scenario options trace answer

-- first the image is to blame, and then its run
abbrev pub IsRunRefused : (List ℕ → List ℕ → Type 0) → (List ℕ → Type 0) → List ℕ → RunOptions → Fault → Type 0
IsRunRefused holds fails image options fault =
    IsImageFault holds fails image fault ⊎ IsWorkFault holds image (λ s. IsRunFault s options fault)

-- the answer is the verdict on the entries, as an object in a line, and the status
pub record IsJudgedInJson (s : Scenario) (es : List Entry) (answer : Answer) : Type 0 where
  pub verdict : Verdict
  pub judged : Judges s es verdict
  pub text_is : string_bytes answer.text ≡ json_line (verdict_json verdict)
  pub status_is : answer.status ≡ verdict_status verdict

-- `check IMAGE TRACE --json`: the verdict on the entries
pub record IsCheckJsonDone (holds : List ℕ → List ℕ → Type 0) (paths : RunPaths) (answer : Answer) : Type 0 where
  pub scenario : Scenario
  pub found : IsScenarioAt holds paths.image scenario
  pub entries : List Entry
  pub read : IsTraceAt holds paths.trace entries
  pub judged : IsJudgedInJson scenario entries answer
  pub made_is : files_of answer.file ≡ []
