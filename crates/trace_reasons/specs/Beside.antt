-- Devices beside the entries of a run. No promise rests on it.
use Rattle.std.specs.Prelude.{◌≡◌, ℕ, true, List, length, Option, Some, slice_get}
use Rattle.device_machine.specs.State.{Device}
use Rattle.scenario_image.specs.Scenario.{Scenario}
use Rattle.trace_file.specs.declared.entry.Entry.{Entry}
use Rattle.fleet_core.specs.Board.{ShowsAfter}
use Rattle.fleet_core.specs.Run.{made_by}
use Rattle.trace_text.specs.Selection.{is_wanted}

-- there is a device for each row; the one that is asked for, or each, shows the state after as many steps as it has
-- entries
pub record AreBeside (s : Scenario) (wanted : Option ℕ) (es : List Entry) (devices : List Device) : Type 0 where
  pub count : length devices ≡ length s.rows
  pub each : (d : ℕ) (x : Device) → is_wanted wanted d ≡ true → slice_get devices d ≡ Some x
      → ShowsAfter s d (made_by d es) x
