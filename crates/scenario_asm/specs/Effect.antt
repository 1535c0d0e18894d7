-- What each statement adds to a draft, in the words of the builders of classes and scenarios, and why it is refused:
-- what was not stated before comes first, then what does not fit, then what is there already, then limits.
use Rattle.std.specs.Prelude.{ℕ, ◌==◌, nat_lt, Bool, true, false, length, Option, None, Some, option_map, Result, Ok}
use Rattle.std.specs.Prelude.{Err, if◌then◌else◌}
use Rattle.std.specs.List.{list_any}
use Rattle.device_template.specs.Template.{Template, empty_class}
use Rattle.device_machine.specs.declared.event.Event.TheVariants as event
use Rattle.scenario_image.specs.Scenario.{Scenario, accounts_of, class_fault, last_row, row_fault, step_fault, with_row}
use Rattle.scenario_image.specs.Scenario.{with_step}
use Rattle.scenario_image.specs.declared.step.Step.{Step}
use Rattle.scenario_image.specs.declared.step.Step.TheVariants as step
use Rattle.scenario_words.specs.declared.cause.Cause.{Cause}
use Rattle.scenario_words.specs.declared.cause.Cause.TheVariants.{Range, Missing, Duplicate}
use Rattle.scenario_words.specs.Reading.{◌>>=◌}
use Rattle.scenario_mnemonics.specs.Messages.{datagram_of, fits_mnemonic}
use Rattle.scenario_mnemonics.specs.declared.mnemonic.Mnemonic.{Mnemonic}
use Rattle.scenario_statements.specs.declared.statement.Statement.{Statement}
use Rattle.scenario_statements.specs.declared.statement.Statement.TheVariants as says
use Rattle.scenario_asm.specs.Causes.{needs, scenario_cause, unless}
use Rattle.scenario_asm.specs.ClassLines.{account_added, definition_added, instance_added, notify_set, object_added}
use Rattle.scenario_asm.specs.ClassLines.{value_added}
use Rattle.scenario_asm.specs.Draft.{Draft, closed_scenario}

-- the draft, whose open class is this one
abbrev pub with_open_class : Draft → Template → Draft
with_open_class d c = record d { open_class = Some c }

-- the same, where this object was stated last
abbrev pub reopened_with : ℕ → Draft → Template → Draft
reopened_with object d c = record d { open_class = Some c; object = Some object }

-- what is added to the open class, which has to be there
abbrev pub in_class : Draft → (Template → Result Template Cause) → (Template → Draft) → Option Template
    → Result Draft Cause
in_class d add make None = Err Missing
in_class d add make (Some c) = add c >>= (λ e. Ok (make e))

-- a resource needs an object line before it in its class
abbrev pub in_object : Option ℕ → (ℕ → Template → Result Template Cause) → Template → Result Template Cause
in_object None add c = Err Missing
in_object (Some object) add c = add object c

-- a class that is begun closes the one before it
abbrev pub class_begun : Draft → Result Draft Cause
class_begun d =
    unless (option_map scenario_cause (class_fault (closed_scenario d)))
    (record { begun = d.begun; scenario = closed_scenario d; open_class = Some empty_class; object = None })

-- a device closes the class before it
abbrev pub device_begun : ℕ → Draft → Result Draft Cause
device_begun class d =
    unless (option_map scenario_cause (row_fault (closed_scenario d) class))
    (record { begun = d.begun; scenario = with_row (closed_scenario d) class; open_class = None; object = None })

abbrev pub has_device : Draft → Bool
has_device d = nat_lt 0 (length d.scenario.rows)

-- the class of the device that was stated last, by its place
abbrev pub last_class : Scenario → Option ℕ
last_class s = option_map (λ r. r.class) (last_row s.rows)

abbrev pub knows : Scenario → ℕ → Option ℕ → Bool
knows s server None = false
knows s server (Some class) = list_any (λ account. account == server) (accounts_of s.classes class)

-- the server is an account of the class of the device that was stated last
abbrev pub has_server : Draft → ℕ → Bool
has_server d server = knows d.scenario server (last_class d.scenario)

abbrev pub step_added : Step → Draft → Result Draft Cause
step_added s d =
    unless (option_map scenario_cause (step_fault d.scenario s))
    (record d { scenario = with_step d.scenario s })

-- a step needs a device
abbrev pub device_step : Step → Draft → Result Draft Cause
device_step s d = needs (has_device d) (step_added s d)

-- a mnemonic has a path of as many numbers as it needs
abbrev pub if_path_fits : Mnemonic → Result Draft Cause → Result Draft Cause
if_path_fits m x = if fits_mnemonic m then x else Err Range

-- what a statement adds; each but the first needs `scenario 1` before it
abbrev pub effect : Statement → Draft → Result Draft Cause
effect says.Scenario d =
    if d.begun then Err Duplicate else Ok (record d { begun = true })
effect says.Class d = needs d.begun (class_begun d)
effect (says.Notify seconds) d = needs d.begun (in_class d (notify_set seconds) (with_open_class d) d.open_class)
effect (says.Account server) d = needs d.begun (in_class d (account_added server) (with_open_class d) d.open_class)
effect (says.Object id) d = needs d.begun (in_class d (object_added id) (reopened_with id d) d.open_class)
effect (says.Def r) d =
    needs d.begun (in_class d (in_object d.object (λ object. definition_added object r))
    (with_open_class d) d.open_class)
effect (says.Instance place) d = needs d.begun (in_class d (instance_added place) (with_open_class d) d.open_class)
effect (says.Value p value) d = needs d.begun (in_class d (value_added p value) (with_open_class d) d.open_class)
effect (says.Device class) d = needs d.begun (device_begun class d)
effect (says.Recv server bytes) d =
    needs d.begun (needs (has_server d server) (step_added (step.Event (event.Recv server bytes)) d))
effect (says.Request server m) d =
    needs d.begun (needs (has_server d server)
    (if_path_fits m (step_added (step.Event (event.Recv server (datagram_of m))) d)))
effect (says.Tick seconds) d = needs d.begun (device_step (step.Event (event.Tick seconds)) d)
effect (says.Put p value) d = needs d.begun (device_step (step.Event (event.Put p value)) d)
effect (says.Firmware code) d = needs d.begun (device_step (step.Event (event.Firmware code)) d)
effect (says.Post group) d = needs d.begun (device_step (step.Post group) d)
effect (says.Need group count) d = needs d.begun (device_step (step.Need group count) d)

-- a statement that takes memory only once nothing refuses it: not one that closes a class, encodes a message or has a
-- value
abbrev pub is_refused_first : Statement → Bool
is_refused_first says.Scenario = true
is_refused_first says.Class = false
is_refused_first (says.Notify seconds) = true
is_refused_first (says.Account server) = true
is_refused_first (says.Object id) = true
is_refused_first (says.Def r) = true
is_refused_first (says.Instance place) = true
is_refused_first (says.Value p value) = false
is_refused_first (says.Device class) = false
is_refused_first (says.Recv server bytes) = true
is_refused_first (says.Request server m) = false
is_refused_first (says.Tick seconds) = true
is_refused_first (says.Put p value) = true
is_refused_first (says.Firmware code) = true
is_refused_first (says.Post group) = true
is_refused_first (says.Need group count) = true
