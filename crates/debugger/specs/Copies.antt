-- The copies of devices, as clauses of private functions name them. No promise rests on it.
use Rattle.std.specs.Prelude.{◌≡◌, ℕ, ◌+◌, ◌*◌, ◌/◌, List, length, Some, slice_get}
use Rattle.device_machine.specs.State.{Device}
use Rattle.scenario_image.specs.Scenario.{Scenario}
use Rattle.trace_file.specs.declared.entry.Entry.{Entry}
use Rattle.fleet_core.specs.Run.{made_by}
use Rattle.fleet_core.specs.Board.{ShowsAfter}
use Rattle.debugger.specs.declared.copies.Copies.{Copies}

-- copies of a device along its row: copy k, counted from 0, shows the state after 64 * (k + 1) steps
pub record AreCopiesAlong (s : Scenario) (d : ℕ) (copies : List Device) : Type 0 where
  pub shown : (k : ℕ) (x : Device) → slice_get copies k ≡ Some x → ShowsAfter s d (64 * (k + 1)) x

-- one such copy after each 64 of this many steps: no more and no less
pub record HasCopies (s : Scenario) (d steps : ℕ) (copies : List Device) : Type 0 where
  pub along : AreCopiesAlong s d copies
  pub count : length copies ≡ steps / 64

-- so for each row, after each 64 of its device's entries
pub record AreCopied (s : Scenario) (es : List Entry) (copies : List Copies) : Type 0 where
  pub rows : length copies ≡ length s.rows
  pub each : (d : ℕ) (x : Copies) → slice_get copies d ≡ Some x → HasCopies s d (made_by d es) x.devices.items
