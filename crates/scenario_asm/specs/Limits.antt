-- Which limit a line passes that is refused for one: how many there may be at most, or how long something may be.
use Rattle.std.specs.Prelude.{◌≡◌, ℕ, ◌+◌, nat_le, Bool, false, List, ◌∷◌, ◌++◌, codes, length, Option, None, Some}
use Rattle.std.specs.Prelude.{Result, Ok, Err, if◌then◌else◌}
use Rattle.std.specs.Fmt.{decimal}
use Rattle.lwm2m_values.specs.Value.{has_good_length}
use Rattle.lwm2m_values.specs.declared.value.Value.{Value}
use Rattle.lwm2m_values.specs.declared.value.Value.TheVariants as values
use Rattle.instance_store.specs.Stored.{value_count}
use Rattle.device_template.specs.Template.{Template, most_accounts}
use Rattle.scenario_image.specs.Scenario.{Row, last_row, most_rows, most_steps}
use Rattle.scenario_words.specs.declared.cause.Cause.{Cause}
use Rattle.scenario_words.specs.declared.cause.Cause.TheVariants as causes
use Rattle.scenario_words.specs.Words.{lines, words}
use Rattle.scenario_statements.specs.declared.statement.Statement.{Statement}
use Rattle.scenario_statements.specs.declared.statement.Statement.TheVariants as says
use Rattle.scenario_statements.specs.Grammar.{statement_of}
use Rattle.scenario_asm.specs.Draft.{Draft, nothing}
use Rattle.scenario_asm.specs.Text.{line_after, lines_after}
use Rattle.scenario_asm.specs.declared.fault.AsmFault.{AsmFault}
use Rattle.scenario_asm.specs.declared.fault.TextFault.{TextFault}
use Rattle.scenario_asm.specs.declared.limit.ScenarioLimit.{ScenarioLimit}
use Rattle.scenario_asm.specs.declared.limit.ScenarioLimit.TheVariants.{Classes, Devices, Steps, Accounts, Objects}
use Rattle.scenario_asm.specs.declared.limit.ScenarioLimit.TheVariants.{Resources, Instances, Values, Parts, Text}
use Rattle.scenario_asm.specs.declared.limit.ScenarioLimit.TheVariants.{Opaque, Datagram}

-- ---- in words

-- how many there may be at most, or how many bytes
abbrev pub most_of : ScenarioLimit → ℕ
most_of Classes = 256
most_of Devices = most_rows
most_of Steps = most_steps
most_of Accounts = most_accounts
most_of Objects = 11
most_of Resources = 64
most_of Instances = 64
most_of Values = 65535
most_of Parts = 32
most_of Text = 255
most_of Opaque = 1024
most_of Datagram = 1500

-- of what
abbrev pub counted_by : ScenarioLimit → List ℕ
counted_by Classes = codes "classes"
counted_by Devices = codes "devices"
counted_by Steps = codes "steps of a device"
counted_by Accounts = codes "accounts of a class"
counted_by Objects = codes "objects of a class"
counted_by Resources = codes "resources of an object"
counted_by Instances = codes "instances of an object"
counted_by Values = codes "values of a class"
counted_by Parts = codes "parts of a resource"
counted_by Text = codes "bytes of a text"
counted_by Opaque = codes "bytes of an opaque value"
counted_by Datagram = codes "bytes of a datagram"

-- `at most 16384 devices`
abbrev pub limit_words : ScenarioLimit → List ℕ
limit_words limit = codes "at most " ++ decimal (most_of limit) ++ codes " " ++ counted_by limit

-- ---- the limit that a statement passes, where it is refused for one; of several the first

-- how long a value may be
abbrev pub length_limit : Value → Option ScenarioLimit
length_limit (values.Text t) = Some Text
length_limit (values.Opaque b) = Some Opaque
length_limit _ = None

-- a value is too long, or its class is full, or else its resource is
abbrev pub value_limit : Value → Option Template → Option ScenarioLimit
value_limit value None = None
value_limit value (Some c) =
    if has_good_length value then Some (if nat_le 65535 (value_count c.store) then Values else Parts)
    else length_limit value

abbrev pub has_all_steps : Option Row → Bool
has_all_steps None = false
has_all_steps (Some row) = nat_le most_steps (length row.steps)

-- the device that was stated last has as many steps as it may have, or else its step is too long
abbrev pub step_limit : Draft → Option ScenarioLimit → Option ScenarioLimit
step_limit d long = if has_all_steps (last_row d.scenario.rows) then Some Steps else long

abbrev pub limit_of : Statement → Draft → Option ScenarioLimit
limit_of says.Scenario d = None
limit_of says.Class d = Some Classes
limit_of (says.Notify seconds) d = None
limit_of (says.Account server) d = Some Accounts
limit_of (says.Object id) d = Some Objects
limit_of (says.Def r) d = Some Resources
limit_of (says.Instance place) d = Some Instances
limit_of (says.Value p value) d = value_limit value d.open_class
limit_of (says.Device class) d = Some Devices
limit_of (says.Recv server bytes) d = step_limit d (Some Datagram)
limit_of (says.Request server m) d = step_limit d (Some Datagram)
limit_of (says.Put p value) d = step_limit d (length_limit value)
limit_of _ d = step_limit d None

-- ---- in a text

-- the fault without the limit
abbrev pub asm_fault : TextFault → AsmFault
asm_fault f = record { line = f.line; cause = f.cause }

abbrev pub limit_said : Draft → Result (Option Statement) Cause → Option ScenarioLimit
limit_said d (Ok (Some s)) = limit_of s d
limit_said d _ = None

-- that of the statement of a line
abbrev pub limit_in : List ℕ → Draft → Option ScenarioLimit
limit_in line d = limit_said d (statement_of (words line))

-- the lines before this one, counted from 1, are taken; it is refused for a limit, which is this one
pub record PassesAt (text : List ℕ) (line : ℕ) (limit : Option ScenarioLimit) : Type 0 where
  pub before : List (List ℕ)
  pub here : List ℕ
  pub behind : List (List ℕ)
  pub cut : lines text ≡ before ++ here ∷ behind
  pub count : line ≡ length before + 1
  pub draft : Draft
  pub taken : lines_after before 0 nothing ≡ Ok draft
  pub refused : line_after here draft ≡ Err causes.Limit
  pub passed : limit ≡ limit_in here draft
