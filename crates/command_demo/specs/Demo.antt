-- The DEMO device: its class, and what it outputs when it has just started (this profile).
use Rattle.std.specs.Prelude.{ℕ, Bool, true, false, ◌&&◌, is_none, List, [], ◌∷◌, codes, pos}
use Rattle.std.specs.List.{fold}
use Rattle.object_defs.specs.Path.{full_path}
use Rattle.object_defs.specs.declared.path.Path.{Path}
use Rattle.object_defs.specs.declared.path.Path.TheVariants.{Resource, Part}
use Rattle.lwm2m_values.specs.declared.value.Value.{Value}
use Rattle.lwm2m_values.specs.declared.value.Value.TheVariants as value
use Rattle.instance_store.specs.Stored.{with_instance}
use Rattle.device_machine.specs.Template.{start_of}
use Rattle.device_template.specs.Template.{Template, empty_class, instance_fault, value_fault, with_account, with_store}
use Rattle.device_template.specs.Values.{with_value_at}
use Rattle.device_requests.specs.Targets.{place_of}
use Rattle.device_machine.specs.Reactions.{outputs_of}
use Rattle.device_machine.specs.State.{Machine}
use Rattle.device_machine.specs.declared.event.Event.TheVariants.{Recv}
use Rattle.device_machine.specs.declared.output.Output.{Output}
use Rattle.command_demo.specs.declared.demo.Held.{Held}
use Rattle.command_demo.specs.declared.demo.Held.TheVariants as held

-- its instances, as object and instance: one each of Server, Device and Firmware Update
abbrev pub demo_instances : List (ℕ × ℕ)
demo_instances = (1, 0) ∷ (3, 0) ∷ (5, 0) ∷ []

-- its values
abbrev pub demo_values : List (Path × Value)
demo_values =
    (Resource 1 0 0, value.Whole (pos 1))
    ∷ (Resource 1 0 1, value.Whole (pos 300))
    ∷ (Resource 1 0 6, value.Flag false)
    ∷ (Resource 1 0 7, value.Text (codes "U"))
    ∷ (Resource 3 0 0, value.Text (codes "Bench"))
    ∷ (Part 3 0 6 0, value.Whole (pos 1))
    ∷ (Part 3 0 6 1, value.Whole (pos 5))
    ∷ (Resource 3 0 9, value.Whole (pos 100))
    ∷ (Part 3 0 11 0, value.Whole (pos 0))
    ∷ (Resource 3 0 16, value.Text (codes "U"))
    ∷ (Resource 5 0 9, value.Whole (pos 2))
    ∷ []

-- a class with one instance more
abbrev pub with_place : Template → ℕ × ℕ → Template
with_place class place = with_store class (with_instance class.store (place_of place.0 place.1))

-- a class with one value more
abbrev pub with_row : Template → Path × Value → Template
with_row class row = with_store class (with_value_at class.store (full_path row.0) row.1)

-- a class refuses none of these instances, added one after another
unfoldable pub takes_instances : Template → List (ℕ × ℕ) → Bool
takes_instances class [] = true
takes_instances class (place ∷ places) =
    is_none (instance_fault class (place_of place.0 place.1)) && takes_instances (with_place class place) places

-- a class refuses none of these values, added one after another
unfoldable pub takes_values : Template → List (Path × Value) → Bool
takes_values class [] = true
takes_values class (row ∷ rows) =
    is_none (value_fault class (full_path row.0) row.1) && takes_values (with_row class row) rows

-- the class: the base objects, one account, these instances and these values; its notifications are Non-confirmable
unfoldable pub demo_class : Template
demo_class = fold with_row (fold with_place (with_account empty_class 1) demo_instances) demo_values

-- the flat state of the device, just started
unfoldable pub demo_start : Machine
demo_start = record { kept = start_of demo_class; recorded = [] }

-- what it then outputs where server 1 sends these bytes
unfoldable pub demo_outputs : List ℕ → List Output
demo_outputs bytes = outputs_of demo_start (Recv 1 bytes)

-- a value as the program's table has it
abbrev pub value_of : Held → Value
value_of (held.Whole n) = value.Whole n
value_of (held.Flag b) = value.Flag b
value_of (held.Text t) = value.Text t.now

-- a row of the program's table
abbrev pub row_of : Path × Held → Path × Value
row_of row = (row.0, value_of row.1)
