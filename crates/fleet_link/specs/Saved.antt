-- The rows of a fleet as a scenario.
use Rattle.std.specs.Prelude.{◌≡◌, ℕ, List, ◌++◌, length, slice_get, Option, Some}
use Rattle.std.specs.List.{flat_map}
use Rattle.fleet_core.specs.Run.{outputs_by}
use Rattle.live_link.specs.Live.{packets_in}
use Rattle.live_link.specs.Wire.{WhereTold}
use Rattle.scenario_image.specs.Scenario.{Row, Scenario}
use Rattle.trace_file.specs.declared.entry.Entry.{Entry}
use Rattle.fleet_link.specs.declared.slot.Slot.{Slot}
use Rattle.fleet_link.specs.Traffic.{Traffic}

-- the row of this class that has the recorded steps of a device
abbrev pub saved_row : ℕ → Slot → Row
saved_row class slot = record { class = class; steps = slot.recording.steps.items }

-- a scenario has the classes of another, and a row for each device, of the class of its row there, with its recorded
-- steps
pub record IsSaved (s : Scenario) (slots : List Slot) (saved : Scenario) : Type 0 where
  pub classes : saved.classes ≡ s.classes
  pub count : length saved.rows ≡ length slots
  pub each : (e : ℕ) (row : Row) (slot : Slot) → slice_get s.rows e ≡ Some row → slice_get slots e ≡ Some slot
      → slice_get saved.rows e ≡ Some (saved_row row.class slot)

-- what a device outputs in a run is what was sent from its port
abbrev pub IsPlayedBack : List Entry → ℕ → Option Traffic → Option Traffic → Type 0
IsPlayedBack es e before after =
    WhereTold (λ old new. new.sent ≡ old.sent ++ flat_map packets_in (outputs_by e es)) before after
