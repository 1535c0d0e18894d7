-- What contracts of the crate's own functions say.
use Rattle.std.specs.Prelude.{ℕ, ◌≡◌, ◌+◌, ◌⊎◌, ◌≤◌, ◌<◌, Bool, true, false, List, Option, None, Some}
use Rattle.scenario_image.specs.Scenario.{Scenario}
use Rattle.fleet_link.specs.declared.slot.Slot.{Slot}
use Rattle.fleet_link.specs.Traffic.{Traffic, no_traffic}
use Rattle.command_files.specs.Files.{MadeFile}
use Rattle.command_files.specs.declared.fault.Fault.{Fault}
use Rattle.command_fleet.specs.Fleet.{IsSavedAt, IsUnkept}
use Rattle.command_fleet.specs.Snapshots.{snapshot_path}

-- ports begin to be shown when nothing has gone through them yet, or are not shown
abbrev pub IsShownFrom : Bool → Option (ℕ → Option Traffic) → Type 0
IsShownFrom false began = began ≡ None
IsShownFrom true None = ⊥
IsShownFrom true (Some began) = (e : ℕ) → began e ≡ Some no_traffic

-- Of a session that was kept last at a second, at a later one: it was kept then, if 60 seconds or more have passed, and
-- is kept last at this one.
abbrev pub IsKeptUpAt : Option (List MadeFile) → Option (List MadeFile) → List ℕ → Scenario → List Slot → ℕ → ℕ → ℕ
    → Type 0
IsKeptUpAt before after path part slots last second now =
    ((second < last + 60) × (now ≡ last) × (after ≡ before))
    ⊎ ((last + 60 ≤ second) × (now ≡ second) × IsSavedAt before after (snapshot_path path) part slots)

-- the same where there is a path; else no file was made
abbrev pub IsKeptUp : Option (List MadeFile) → Option (List MadeFile) → Option (List ℕ) → Scenario → List Slot → ℕ → ℕ
    → ℕ
    → Type 0
IsKeptUp before after None part slots last second now = after ≡ before
IsKeptUp before after (Some path) part slots last second now =
    IsKeptUpAt before after path part slots last second now

-- a snapshot was to be made, and could not be
abbrev pub IsNotKeptUp : (List ℕ → Type 0) → Option (List ℕ) → ℕ → ℕ → Fault → Type 0
IsNotKeptUp refuses path last second fault = (last + 60 ≤ second) × IsUnkept refuses path fault
