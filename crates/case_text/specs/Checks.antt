-- What is refused of lines and of cases that were read.
use Rattle.std.specs.Prelude.{ℕ, ◌||◌, ◌&&◌, Bool, true, false, not, List, [], ◌∷◌, ◌++◌, find, option_map, Option}
use Rattle.std.specs.Prelude.{None, Some, Result, Ok, Err, if◌then◌else◌}
use Rattle.std.specs.List.{list_any}
use Rattle.std.specs.Str.{bytes_eq}
use Rattle.case_text.specs.declared.answer.Answer.{Answer}
use Rattle.case_text.specs.declared.case.Case.{Case}
use Rattle.case_text.specs.declared.case.Case.TheVariants as of
use Rattle.case_text.specs.declared.fault.CaseFault.{CaseFault}
use Rattle.case_text.specs.declared.fault.Why.TheVariants as why
use Rattle.case_text.specs.declared.file_answer.FileAnswer.{FileAnswer}
use Rattle.case_text.specs.declared.file_case.FileCase.{FileCase}
use Rattle.case_text.specs.declared.file_stated.FileStated.{FileStated}
use Rattle.case_text.specs.declared.file_stated.FileStated.TheVariants as file_states
use Rattle.case_text.specs.declared.item.Item.{Item}
use Rattle.case_text.specs.declared.item.Part.{Part}
use Rattle.case_text.specs.declared.item.Part.TheVariants as part
use Rattle.case_text.specs.declared.line.Line.{Line}
use Rattle.case_text.specs.declared.line.Line.TheVariants as is
use Rattle.case_text.specs.declared.numbered.Numbered.{Numbered}
use Rattle.case_text.specs.declared.scenario_case.ScenarioCase.{ScenarioCase}
use Rattle.case_text.specs.declared.stated.Stated.{Stated}
use Rattle.case_text.specs.declared.stated.Stated.TheVariants.{Written}
use Rattle.case_text.specs.declared.stated.WrittenStated.TheVariants as written
use Rattle.case_text.specs.declared.trial.Trial.{Trial}

-- the title of a case, and the line that it stands in
abbrev pub title_of_case : Case → List ℕ
title_of_case (of.Scenario c) = c.title
title_of_case (of.File c) = c.title

abbrev pub line_of_case : Case → ℕ
line_of_case (of.Scenario c) = c.line
line_of_case (of.File c) = c.line

-- nothing but remarks stands before the first case, and there is one
abbrev pub begun_by : Line → ℕ → Result (Unit {0}) CaseFault → Result (Unit {0}) CaseFault
begun_by is.Remark n more = more
begun_by (is.Title t) n more = Ok tt
begun_by l n more = Err (record { line = n; why = why.BeforeFirstCase })

abbrev pub check_of_start : List Numbered → Result (Unit {0}) CaseFault
check_of_start [] = Err (record { line = 1; why = why.NoCase })
check_of_start (x ∷ xs) = begun_by x.line x.number (check_of_start xs)

-- the line of the first `=| LINE` without `=> text` above it
abbrev pub stray_by : Bool → Stated → ℕ → (Bool → Option ℕ) → Option ℕ
stray_by announced (Written written.Text) n more = more true
stray_by announced (Written (written.TextLine t)) n more = if announced then more true else Some n
stray_by announced _ n more = more false

abbrev pub stray : List Answer → Bool → Option ℕ
stray [] announced = None
stray (a ∷ others) announced = stray_by announced a.stated a.line (stray others)

abbrev pub stray_by_item : Option ℕ → Option ℕ → Option ℕ
stray_by_item (Some n) others = Some n
stray_by_item None others = others

abbrev pub stray_in : List Item → Option ℕ
stray_in [] = None
stray_in (i ∷ others) = stray_by_item (stray i.answers false) (stray_in others)

-- the same in a case of a file, where `=> entries` announces lines too
abbrev pub file_stray_by : Bool → FileStated → ℕ → (Bool → Option ℕ) → Option ℕ
file_stray_by announced file_states.Text n more = more true
file_stray_by announced file_states.Entries n more = more true
file_stray_by announced (file_states.TextLine t) n more = if announced then more true else Some n
file_stray_by announced _ n more = more false

abbrev pub file_stray : List FileAnswer → Bool → Option ℕ
file_stray [] announced = None
file_stray (a ∷ others) announced = file_stray_by announced a.stated a.line (file_stray others)

abbrev pub stray_in_trials : List Trial → Option ℕ
stray_in_trials [] = None
stray_in_trials (t ∷ others) = stray_by_item (file_stray t.answers false) (stray_in_trials others)

abbrev pub is_none : {A : Type 0} → List A → Bool
is_none [] = true
is_none (a ∷ others) = false

-- the line of the first recorded trace, and of the first trial, without an answer
abbrev pub is_recorded : Part → Bool
is_recorded (part.Recorded b) = true
is_recorded p = false

abbrev pub unanswered_item : List Item → Option ℕ
unanswered_item items = option_map (λ i. i.line) (find (λ i. is_recorded i.part && is_none i.answers) items)

abbrev pub unanswered_trial : List Trial → Option ℕ
unanswered_trial trials = option_map (λ t. t.line) (find (λ t. is_none t.answers) trials)

-- a question, or a line with an answer below it
abbrev pub asks : Part → Bool
asks (part.Ask m q) = true
asks _ = false

abbrev pub states_something : List Item → Bool
states_something items = list_any (λ i. asks i.part || not (is_none i.answers)) items

-- the fault of the line that has no answer, or of the one that is not announced
abbrev pub line_fault : Option ℕ → Option ℕ → Option CaseFault
line_fault (Some n) stray = Some (record { line = n; why = why.NoAnswerBelow })
line_fault None (Some n) = Some (record { line = n; why = why.NoTextAbove })
line_fault None None = None

abbrev pub scenario_fault : ScenarioCase → Option CaseFault
scenario_fault c =
    if states_something c.items then line_fault (unanswered_item c.items) (stray_in c.items)
    else Some (record { line = c.line; why = why.NoAnswer })

abbrev pub file_fault : FileCase → Option CaseFault
file_fault c = line_fault (unanswered_trial c.trials) (stray_in_trials c.trials)

-- why a case is refused, whatever stands above it
abbrev pub fault_in : Case → Option CaseFault
fault_in (of.Scenario c) = scenario_fault c
fault_in (of.File c) = file_fault c

abbrev pub has_title : List ℕ → List Case → Bool
has_title title cs = list_any (λ c. bytes_eq (title_of_case c) title) cs

-- why a case is refused, below those before it
abbrev pub fault_of : List Case → Case → Option CaseFault
fault_of above c =
    if has_title (title_of_case c) above then Some (record { line = line_of_case c; why = why.SameTitle })
    else fault_in c

abbrev pub unless : Option CaseFault → Result (Unit {0}) CaseFault → Result (Unit {0}) CaseFault
unless (Some f) more = Err f
unless None more = more

-- the first case that is refused, if any
abbrev pub check_of_cases : List Case → List Case → Result (Unit {0}) CaseFault
check_of_cases above [] = Ok tt
check_of_cases above (c ∷ cs) = unless (fault_of above c) (check_of_cases (above ++ c ∷ []) cs)
