-- Which devices of a scenario are put on ports.
use Rattle.std.specs.Prelude.{ℕ, ◌≡◌, ◌+◌, ◌-◌, ◌%◌, ◌<◌, ◌≤◌, Bool, List, length, Option, None, Some}
use Rattle.std.specs.Prelude.{option_map, slice_get, unwrap_or}
use Rattle.command_files.specs.Devices.{IsDeviceRange}
use Rattle.command_files.specs.declared.devices.Devices.{Devices}
use Rattle.fleet_link.specs.Playing.{played_steps}
use Rattle.scenario_image.specs.Scenario.{Row, Scenario}

-- all of them
pub record AreAll (s : Scenario) (devices : Devices) : Type 0 where
  pub first : devices.first ≡ 0
  pub last : devices.last + 1 ≡ length s.rows

-- those of `--devices`, and all where it is not given
abbrev pub AreNamed : Scenario → Option (List ℕ) → Devices → Type 0
AreNamed s None devices = AreAll s devices
AreNamed s (Some text) devices = IsDeviceRange text devices

-- they are named, there is one at least, and the scenario has them
pub record AreChosen (s : Scenario) (text : Option (List ℕ)) (devices : Devices) : Type 0 where
  pub named : AreNamed s text devices
  pub some : devices.first ≤ devices.last
  pub there : devices.last < length s.rows

-- how many they are
abbrev pub count_of : Devices → ℕ
count_of devices = devices.last + 1 - devices.first

-- a row with the steps that are played: all but its datagrams, or none
abbrev pub row_to_play : Bool → Row → Row
row_to_play played row = record row { steps = played_steps played row.steps }

-- a scenario has the classes of another and the rows of these devices, one after another; with `--copies N`, N rows,
-- which are those over and over
pub record IsPart (s : Scenario) (devices : Devices) (copies : Option ℕ) (played : Bool) (part : Scenario) : Type 0
  where
    pub classes : part.classes ≡ s.classes
    pub count : length part.rows ≡ unwrap_or copies (count_of devices)
    pub each : (k : ℕ) → k < length part.rows → slice_get part.rows k
        ≡ option_map (row_to_play played) (slice_get s.rows (devices.first + k % count_of devices))
