-- The canonical text of a scenario: its statements in order, a line each.
use Rattle.std.specs.Prelude.{ℕ, ◌==◌, List, [], ◌∷◌, ◌++◌, map, Option, None, Some, if◌then◌else◌}
use Rattle.std.specs.List.{flat_map}
use Rattle.lwm2m_values.specs.declared.value.Value.{Value}
use Rattle.object_defs.specs.declared.definition.ObjectDef.{ObjectDef}
use Rattle.object_defs.specs.Path.{path_to}
use Rattle.object_defs.specs.declared.path.FullPath.{FullPath}
use Rattle.device_template.specs.Template.{Template}
use Rattle.device_machine.specs.declared.event.Event.TheVariants.{Recv, Put, Firmware, Tick}
use Rattle.scenario_layout.specs.Class.{objects_in, instances_in, values_in}
use Rattle.scenario_image.specs.declared.step.Step.{Step}
use Rattle.scenario_image.specs.declared.step.Step.TheVariants.{Event, Post, Need}
use Rattle.scenario_image.specs.Scenario.{Row, Scenario}
use Rattle.scenario_words.specs.Words.{ended_line}
use Rattle.scenario_mnemonics.specs.declared.mnemonic.Mnemonic.{Mnemonic}
use Rattle.scenario_mnemonics.specs.Denoting.{mnemonic_of}
use Rattle.scenario_statements.specs.declared.statement.Statement.{Statement}
use Rattle.scenario_statements.specs.declared.statement.Statement.TheVariants as says
use Rattle.scenario_statements.specs.Spelling.{line_of}

-- ---- a class: how it notifies, its accounts, the objects of its own, its instances, its values, each ascending

-- a class whose devices send Non-confirmable notifications does not say so
abbrev pub of_notify : ℕ → List Statement
of_notify seconds = if seconds == 0 then [] else says.Notify seconds ∷ []

-- an object, and the resources that it has
abbrev pub of_object : ObjectDef → List Statement
of_object o = says.Object o.id ∷ map (λ d. says.Def d) o.resources

-- a value at its path, of three or four numbers
abbrev pub of_value : FullPath × Value → Statement
of_value e = says.Value (path_to e.0) e.1

abbrev pub of_class : Template → List Statement
of_class c =
    says.Class
    ∷ (of_notify c.notify
    ++ (map (λ s. says.Account s) c.accounts
    ++ (flat_map of_object (objects_in c)
    ++ (map (λ p. says.Instance p) (instances_in c) ++ map of_value (values_in c)))))

-- ---- a device: its class, and its steps

-- a datagram that a mnemonic denotes is said by it, any other by its bytes
abbrev pub of_datagram : ℕ → List ℕ → Option Mnemonic → Statement
of_datagram server bytes (Some m) = says.Request server m
of_datagram server bytes None = says.Recv server bytes

abbrev pub of_step : Step → Statement
of_step (Event (Recv server bytes)) = of_datagram server bytes (mnemonic_of bytes)
of_step (Event (Put p v)) = says.Put p v
of_step (Event (Firmware code)) = says.Firmware code
of_step (Event (Tick seconds)) = says.Tick seconds
of_step (Post group) = says.Post group
of_step (Need group count) = says.Need group count

abbrev pub of_row : Row → List Statement
of_row r = says.Device r.class ∷ map of_step r.steps

-- ---- the scenario: the classes, then the devices

-- what a scenario says, in canonical order
abbrev pub statements : Scenario → List Statement
statements s = says.Scenario ∷ (flat_map of_class s.classes ++ flat_map of_row s.rows)

-- a statement as its line, with the LF that ends it
abbrev pub printed_line : Statement → List ℕ
printed_line s = ended_line (line_of s)

-- the lines of statements
abbrev pub printed_lines : List Statement → List ℕ
printed_lines ss = flat_map printed_line ss

-- the canonical text of a scenario
abbrev pub text_of_scenario : Scenario → List ℕ
text_of_scenario s = printed_lines (statements s)
