-- What contracts see of a fleet, and what it keeps.
use Rattle.std.specs.Prelude.{◌≡◌, ℕ, ◌+◌, ◌<◌, Bool, true, false, List, [], ◌∷◌, ◌++◌}
use Rattle.std.specs.Prelude.{length, None, Some}
use Rattle.std.specs.Prelude.{slice_get, slice_index, slice_set}
use Rattle.device_template.specs.Template.{Template}
use Rattle.device_machine.specs.State.{Device, Shows}
use Rattle.scenario_image.specs.declared.step.Step.{Step}
use Rattle.scenario_image.specs.declared.step.Step.TheVariants.{Event, Post, Need}
use Rattle.scenario_image.specs.Scenario.{Scenario, IsValid}
use Rattle.scenario_image.specs.Play.{start, state_at, IsRowOf}
use Rattle.trace_file.specs.declared.entry.Entry.{Entry}
use Rattle.fleet_core.specs.Run.{made_by, posts_of, step_at, entry_of, Fits, IsRun}

-- what contracts see of a fleet: the scenario, the entries, and whether a lack of memory has spent it. So of a replay,
-- which an entry that does not follow may spend too
pub record FleetModel : Type 0 where
  pub scenario : Scenario
  pub entries : List Entry
  pub spent : Bool

-- the entries are a run of a valid scenario, and the counters are its counts
pub record IsBoard (s : Scenario) (es : List Entry) (made posts : List ℕ) : Type 0 where
  pub valid : IsValid s
  pub run : IsRun s es
  pub rows : length made ≡ length s.rows
  pub groups : length posts ≡ 256
  pub made_is : (d : ℕ) → d < length s.rows → slice_index made d ≡ made_by d es
  pub posts_is : (g : ℕ) → g < 256 → slice_index posts g ≡ posts_of s g es

-- the device shows the state after the first k steps of row d
abbrev pub ShowsAfter : Scenario → ℕ → ℕ → Device → Type 0
ShowsAfter s d k x = (class : Template) (steps : List Step) → IsRowOf s d class steps → Shows x (state_at class steps k)

-- what contracts see of what is held of a device: the device, whether it is yet to be started, so that there is its
-- class alone, and whether its memory was let go of
pub record Holding : Type 0 where
  pub shown : Device
  pub fresh : Bool
  pub gone : Bool

-- after the first k steps of row d the device shows the state then. It is yet to be started only where it has made no
-- step, and its memory was let go of only where it has made each
pub record HoldsAfter (s : Scenario) (d k : ℕ) (x : Holding) : Type 0 where
  pub shows : ShowsAfter s d k x.shown
  pub fresh : x.fresh ≡ true → k ≡ 0
  pub gone : x.gone ≡ true → step_at s d k ≡ None

-- of each device there is what is held after the steps that it has made
pub record AreParked (s : Scenario) (es : List Entry) (devices : List Holding) : Type 0 where
  pub each : (d : ℕ) (x : Holding) → slice_get devices d ≡ Some x → HoldsAfter s d (made_by d es) x

-- the devices of a fleet that memory has spent are open
pub record IsFleet (s : Scenario) (es : List Entry) (made posts : List ℕ) (devices : List Holding)
    (spent : Bool) : Type 0 where
  pub board : IsBoard s es made posts
  pub count : length devices ≡ length s.rows
  pub parked : spent ≡ false → AreParked s es devices

-- each device is at the start of its row
pub record AreStarted (s : Scenario) (devices : List Device) : Type 0 where
  pub each : (d : ℕ) (x : Device) → slice_get devices d ≡ Some x → (class : Template) (steps : List Step)
      → IsRowOf s d class steps → Shows x (start class)

-- the posts to each group after a step
abbrev pub posts_after : List ℕ → Step → List ℕ
posts_after posts (Event event) = posts
posts_after posts (Post group) = slice_set posts group (slice_index posts group + 1)
posts_after posts (Need group count) = posts

-- with the device's next entry, under this worker
abbrev pub with_entry : FleetModel → ℕ → ℕ → FleetModel
with_entry v worker d =
    record { scenario = v.scenario; entries = v.entries ++ entry_of v.scenario worker d v.entries ∷ []; spent = false }

-- the entry came next, and has been added
pub record Continues (old new : FleetModel) (e : Entry) : Type 0 where
  pub fits : Fits old.scenario old.entries e
  pub entries : new.entries ≡ old.entries ++ e ∷ []
  pub scenario : new.scenario ≡ old.scenario
  pub ready : new.spent ≡ false

-- whether the entry came next
abbrev pub Replays : FleetModel → FleetModel → Entry → Bool → Type 0
Replays old new e true = Continues old new e
Replays old new e false = Fits old.scenario old.entries e → ⊥
