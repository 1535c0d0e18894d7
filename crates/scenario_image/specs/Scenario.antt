-- What a scenario says, when it is valid, and what is refused at its end.
use Rattle.std.specs.Prelude.{◌≡◌, ℕ, ◌-◌, ◌<◌, ◌≤◌, ◌==◌, nat_le, Bool, true, not, ◌&&◌, List, [], ◌∷◌, ◌++◌, length}
use Rattle.std.specs.Prelude.{take, Option, None, Some, is_some, slice_get, slice_set, if◌then◌else◌}
use Rattle.std.specs.Prelude.{IfSome}
use Rattle.std.specs.List.{list_any, AllByRecursion}
use Rattle.byte_layout.specs.Exact.{IsBytes}
use Rattle.lwm2m_values.specs.Value.{IsGood}
use Rattle.object_defs.specs.Lines.{first_line}
use Rattle.object_defs.specs.Path.{full_path}
use Rattle.object_defs.specs.declared.path.FullPath.{FullPath}
use Rattle.device_machine.specs.declared.event.Event.TheVariants.{Recv, Put, Firmware, Tick}
use Rattle.device_template.specs.Template.{Template}
use Rattle.lwm2m_values.specs.Value.{has_good_length}
use Rattle.scenario_image.specs.declared.step.Step.{Step}
use Rattle.scenario_image.specs.declared.step.Step.TheVariants.{Event, Post, Need}
use Rattle.scenario_image.specs.declared.fault.ScenarioFault.{ScenarioFault}
use Rattle.scenario_image.specs.declared.fault.ScenarioFault.TheVariants.{Range, Missing, Limit}

-- the row of a device: the place of its class, and its steps
pub record Row : Type 0 where
  pub class : ℕ
  pub steps : List Step

-- what a scenario says
pub record Scenario : Type 0 where
  pub classes : List Template
  pub rows : List Row

-- the scenario without a class, and so without a row
abbrev pub no_class : Scenario
no_class = record { classes = []; rows = [] }

-- ---- a step by itself

-- 1 to 86,400 seconds pass; 1 to 1,000,000 posts are needed; a code of the firmware is 0 to 9; a value is put at a path
-- of three or four numbers
abbrev pub is_in_range : Step → Bool
is_in_range (Event (Recv server bytes)) = true
is_in_range (Event (Put path value)) = is_some (full_path path)
is_in_range (Event (Firmware code)) = nat_le code 9
is_in_range (Event (Tick seconds)) = nat_le 1 seconds && nat_le seconds 86400
is_in_range (Post group) = true
is_in_range (Need group count) = nat_le 1 count && nat_le count 1000000

-- a datagram has at most 1,500 bytes; a Text that is put 255, an Opaque 1,024
abbrev pub is_within_limits : Step → Bool
is_within_limits (Event (Recv server bytes)) = nat_le (length bytes) 1500
is_within_limits (Event (Put path value)) = has_good_length value
is_within_limits (Event (Firmware code)) = true
is_within_limits (Event (Tick seconds)) = true
is_within_limits (Post group) = true
is_within_limits (Need group count) = true

-- a datagram comes from one of these accounts
abbrev pub is_known : List ℕ → Step → Bool
is_known accounts (Event (Recv server bytes)) = list_any (λ account. account == server) accounts
is_known accounts (Event (Put path value)) = true
is_known accounts (Event (Firmware code)) = true
is_known accounts (Event (Tick seconds)) = true
is_known accounts (Post group) = true
is_known accounts (Need group count) = true

-- the numbers of a path are of two bytes
pub record HasShortNumbers (p : FullPath) : Type 0 where
  pub object : p.object < 65536
  pub instance : p.instance < 65536
  pub resource : p.resource < 65536
  pub part : IfSome p.part (λ n. n < 65536)

-- what a step holds is of its fields' types: a server is a number of two bytes, a group of one, a datagram is bytes, a
-- value is a good one
abbrev pub HasFields : Step → Type 0
HasFields (Event (Recv server bytes)) = (server < 65536) × IsBytes bytes
HasFields (Event (Put path value)) = IfSome (full_path path) HasShortNumbers × IsGood value
HasFields (Event (Firmware code)) = Unit {0}
HasFields (Event (Tick seconds)) = Unit {0}
HasFields (Post group) = group < 256
HasFields (Need group count) = group < 256

-- ---- which scenarios are valid

-- a step that a device of a class with these accounts may have
pub record IsGoodStep (accounts : List ℕ) (step : Step) : Type 0 where
  pub fields : HasFields step
  pub range : is_in_range step ≡ true
  pub known : is_known accounts step ≡ true
  pub within : is_within_limits step ≡ true

-- how many rows a scenario may have
abbrev pub most_rows : ℕ
most_rows = 16384

-- how many steps a row may have
abbrev pub most_steps : ℕ
most_steps = 4096

-- a row is of a class that is there, and has at most `most_steps` steps, which suit the class
pub record IsGoodRow (classes : List Template) (row : Row) : Type 0 where
  pub class : Template
  pub stated : slice_get classes row.class ≡ Some class
  pub count : length row.steps ≤ most_steps
  pub each : AllByRecursion (IsGoodStep class.accounts) row.steps

-- at most 256 classes, and at most `most_rows` rows
pub record IsValid (s : Scenario) : Type 0 where
  pub classes : length s.classes ≤ 256
  pub rows : length s.rows ≤ most_rows
  pub each : AllByRecursion (IsGoodRow s.classes) s.rows

-- ---- what is added, and what is refused

abbrev pub with_class : Scenario → Template → Scenario
with_class s class = record s { classes = s.classes ++ class ∷ [] }

-- a class is refused where there are 256
abbrev pub class_fault : Scenario → Option ScenarioFault
class_fault s = if nat_le 256 (length s.classes) then Some Limit else None

-- with one row more, which has no step yet
abbrev pub with_row : Scenario → ℕ → Scenario
with_row s class = record s { rows = s.rows ++ record { class = class; steps = [] } ∷ [] }

-- a row is refused where there is no such class, and where there are `most_rows`
abbrev pub row_fault : Scenario → ℕ → Option ScenarioFault
row_fault s class =
    first_line (
    (nat_le (length s.classes) class, Missing)
    ∷ (nat_le most_rows (length s.rows), Limit)
    ∷ []
    )

abbrev pub last_row : List Row → Option Row
last_row rows = slice_get rows (length rows - 1)

-- with one step more at its end
abbrev pub with_last_step : Row → Step → Row
with_last_step row step = record row { steps = row.steps ++ step ∷ [] }

-- the rows, where the last one is this, with a step more at its end
abbrev pub with_last : List Row → Option Row → Step → List Row
with_last rows None step = rows
with_last rows (Some row) step = slice_set rows (length rows - 1) (with_last_step row step)

-- a step is added to the last row
abbrev pub with_step : Scenario → Step → Scenario
with_step s step = record s { rows = with_last s.rows (last_row s.rows) step }

abbrev pub accounts_in : Option Template → List ℕ
accounts_in None = []
accounts_in (Some class) = class.accounts

-- the accounts of a class, by its place
abbrev pub accounts_of : List Template → ℕ → List ℕ
accounts_of classes class = accounts_in (slice_get classes class)

-- the datagram's server is an account of the row's class; a row has at most `most_steps`; the step is within its limits
abbrev pub fault_in : List Template → Option Row → Step → Option ScenarioFault
fault_in classes None step = Some Missing
fault_in classes (Some row) step =
    first_line (
    (not (is_known (accounts_of classes row.class) step), Missing)
    ∷ (nat_le most_steps (length row.steps), Limit)
    ∷ (not (is_within_limits step), Limit)
    ∷ []
    )

-- a step is in range, there is a row, and the last row takes the step
abbrev pub step_fault : Scenario → Step → Option ScenarioFault
step_fault s step = if not (is_in_range step) then Some Range else fault_in s.classes (last_row s.rows) step

-- ---- one class and one row

abbrev pub one_row : Template → List Step → Scenario
one_row class steps = record { classes = class ∷ []; rows = record { class = 0; steps = steps } ∷ [] }

-- the first n steps are taken, each after those before it
abbrev pub AreTaken : Template → List Step → ℕ → Type 0
AreTaken class steps n =
    (k : ℕ) (step : Step) → k < n → slice_get steps k ≡ Some step
    → step_fault (one_row class (take k steps)) step ≡ None

-- the first step that is refused after those before it is refused so
pub record IsFirstRefusal (class : Template) (steps : List Step) (fault : ScenarioFault) : Type 0 where
  pub place : ℕ
  pub step : Step
  pub stands : slice_get steps place ≡ Some step
  pub taken : AreTaken class steps place
  pub refused : step_fault (one_row class (take place steps)) step ≡ Some fault
