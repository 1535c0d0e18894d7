-- What `lint FILE [--only RULE] .. [--not RULE] .. [--json] [--why]` comes to: the findings that are printed, and what
-- is refused; and `lint --rules`, which names no file.
--
-- Two relations say what is known of the files: `holds path bytes`, the file at the path had these bytes when it was
-- read; `fails path`, it could not be read.
use Rattle.std.specs.Prelude.{⊤, ℕ, zero, suc, ◌≡◌, ◌⊎◌, List, [], ◌∷◌, ◌++◌, length, map, find, Option, None, Some}
use Rattle.std.specs.List.{flat_map}
use Rattle.std.specs.String.{string_bytes}
use Rattle.scenario_image.specs.Scenario.{Scenario}
use Rattle.server_lint.specs.declared.rule.Rule.{Rule}
use Rattle.server_lint.specs.Findings.{AreThose, IsFinding, candidates}
use Rattle.command_files.specs.Answers.{files_of}
use Rattle.command_files.specs.Fault.{IsReadingFault}
use Rattle.command_files.specs.Loading.{IsHeld}
use Rattle.command_files.specs.declared.fault.Fault.{Fault}
use Rattle.command_files.specs.declared.fault.Fault.TheVariants as faults
use Rattle.command_sources.specs.Sources.{IsNoScenario, IsScenarioOf}
use Rattle.command_files.specs.declared.answer.Answer.{Answer}
use Rattle.command_files.specs.declared.status.Status.{Status}
use Rattle.command_files.specs.declared.status.Status.TheVariants.{Done, NotRun, Usage}
use Rattle.command_lint.specs.Choice.{chosen_rules, is_unknown}
use Rattle.command_lint.specs.History.{end_of, history_of}
use Rattle.command_lint.specs.Lines.{AreFoundLines, count_line, rule_line, unknown_line}
use Rattle.command_lint.specs.declared.form.LintForm.{LintForm}
use Rattle.command_lint.specs.declared.rows.Found.{Found}

-- one of the chosen rules is broken in the history of a device
abbrev pub IsFound : List Rule → Scenario → Found → Type 0
IsFound chosen s found =
    IsFinding chosen (history_of s found.device) (end_of s found.device) found.finding

-- what could be found of a device: at each datagram of its history each rule, in their order
abbrev pub candidates_of : Scenario → ℕ → List Found
candidates_of s d = map (λ finding. record { device = d; finding = finding }) (candidates (length (history_of s d)))

-- what could be found of the first n devices, one after another
abbrev pub candidates_to : Scenario → ℕ → List Found
candidates_to s zero = []
candidates_to s (suc d) = candidates_to s d ++ candidates_of s d

-- all that is found in a scenario, in the order of devices, datagrams and rules
abbrev pub AreAllFound : List Rule → Scenario → List Found → Type 0
AreAllFound chosen s found = AreThose (IsFound chosen s) (candidates_to s (length s.rows)) found

-- a finding is told by the exit status too
abbrev pub status_of : List Found → Status
status_of [] = Done
status_of (f ∷ fs) = NotRun

-- a line for each finding, and one that counts them
pub record IsLinted (form : LintForm) (chosen : List Rule) (s : Scenario) (answer : Answer) : Type 0 where
  pub found : List Found
  pub all : AreAllFound chosen s found
  pub lines : List ℕ
  pub lines_are : AreFoundLines form s found lines
  pub text_is : string_bytes answer.text ≡ lines ++ count_line form (length found)
  pub status_is : answer.status ≡ status_of found
  pub made_is : files_of answer.file ≡ []

-- the scenario whose image or text the file is is linted by these rules
pub record IsFileLinted (holds : List ℕ → List ℕ → Type 0) (path : List ℕ) (form : LintForm) (chosen : List Rule)
    (answer : Answer) : Type 0 where
  pub scenario : Scenario
  pub read : IsHeld holds path (λ bytes. IsScenarioOf bytes scenario)
  pub linted : IsLinted form chosen scenario answer

-- a line for each of these rules
pub record AreRulesTold (chosen : List Rule) (answer : Answer) : Type 0 where
  pub text_is : string_bytes answer.text ≡ flat_map rule_line chosen
  pub status_is : answer.status ≡ Done
  pub made_is : files_of answer.file ≡ []

-- what is answered with these rules: what breaks them, where a file is named; else they are told, as text
abbrev pub IsAnsweredBy : (List ℕ → List ℕ → Type 0) → Option (List ℕ) → LintForm → List Rule → Answer → Type 0
IsAnsweredBy holds None form chosen answer = AreRulesTold chosen answer
IsAnsweredBy holds (Some path) form chosen answer = IsFileLinted holds path form chosen answer

-- the words name rules, and those that they choose are answered with
pub record IsChosenAnswered (holds : List ℕ → List ℕ → Type 0) (path : Option (List ℕ)) (form : LintForm)
    (only excluded : List (List ℕ)) (answer : Answer) : Type 0 where
  pub known : find is_unknown (only ++ excluded) ≡ None
  pub answered : IsAnsweredBy holds path form (chosen_rules only excluded) answer

-- the first word that is the name of no rule is told; the file is not read
pub record IsUnknownRule (only excluded : List (List ℕ)) (answer : Answer) : Type 0 where
  pub word : List ℕ
  pub first : find is_unknown (only ++ excluded) ≡ Some word
  pub text_is : string_bytes answer.text ≡ unknown_line word
  pub status_is : answer.status ≡ Usage
  pub made_is : files_of answer.file ≡ []

abbrev pub IsLintDone : (List ℕ → List ℕ → Type 0) → Option (List ℕ) → LintForm → List (List ℕ) → List (List ℕ)
    → Answer → Type 0
IsLintDone holds path form only excluded answer =
    IsUnknownRule only excluded answer ⊎ IsChosenAnswered holds path form only excluded answer

-- a file is named, and could not be read, or is neither an image nor a text
abbrev pub IsUnread : (List ℕ → List ℕ → Type 0) → (List ℕ → Type 0) → Option (List ℕ) → Fault → Type 0
IsUnread holds fails None fault = ⊥
IsUnread holds fails (Some path) fault =
    IsReadingFault (fails path) fault ⊎ IsHeld holds path (λ bytes. IsNoScenario bytes fault)

-- no memory was left; else the words name rules, and the file is to blame
abbrev pub IsLintFault : (List ℕ → List ℕ → Type 0) → (List ℕ → Type 0) → Option (List ℕ) → List (List ℕ)
    → List (List ℕ) → Fault → Type 0
IsLintFault holds fails path only excluded faults.Memory = ⊤
IsLintFault holds fails path only excluded fault =
    (find is_unknown (only ++ excluded) ≡ None) × IsUnread holds fails path fault
