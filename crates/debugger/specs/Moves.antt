-- How the devices of a debugger are moved, as clauses of private functions name it. No promise rests on it.
use Rattle.std.specs.Prelude.{◌≡◌, ℕ, ◌-◌, ◌*◌, ◌/◌, ◌<◌, ◌≤◌, ◌⊎◌, nat_le, if◌then◌else◌, List, length, take, Some}
use Rattle.std.specs.Prelude.{slice_get, slice_index}
use Rattle.std.specs.List.{sum_by, range_with_len}
use Rattle.device_machine.specs.State.{Device}
use Rattle.scenario_image.specs.Scenario.{Scenario}
use Rattle.trace_file.specs.declared.entry.Entry.{Entry}
use Rattle.fleet_core.specs.Run.{made_by, steps_in}
use Rattle.fleet_core.specs.Board.{ShowsAfter}
use Rattle.debugger.specs.declared.moves.Moved.{Moved}
use Rattle.debugger.specs.Replayed.{events_by}
use Rattle.debugger.specs.Session.{Session}

-- the row has this many steps
abbrev pub HasSteps : Scenario → ℕ → ℕ → Type 0
HasSteps s d k = k ≤ length (steps_in (slice_get s.rows d))

-- the device of the row was moved to where it has made its first steps, and took this many events for that
pub record IsMoved (s : Scenario) (d to count : ℕ) (m : Moved) : Type 0 where
  pub device : m.device ≡ d
  pub made : m.made ≡ to
  pub shows : ShowsAfter s d to m.machine
  pub steps : m.steps ≡ count

-- one of these was moved
pub record IsAmong (moved : List Moved) (d : ℕ) : Type 0 where
  pub index : ℕ
  pub one : Moved
  pub stands : slice_get moved index ≡ Some one
  pub own : one.device ≡ d

-- it goes to a row that there is, and has made as many steps as the row's device has entries among these
pub record IsReady (s : Scenario) (es : List Entry) (m : Moved) : Type 0 where
  pub row : m.device < length s.rows
  pub made : m.made ≡ made_by m.device es
  pub shows : ShowsAfter s m.device (made_by m.device es) m.machine

-- the device has made as many steps as it has entries among these, and they are its count
pub record IsSettled (s : Scenario) (es : List Entry) (made : List ℕ) (d : ℕ) (x : Device) : Type 0 where
  pub count : slice_index made d ≡ made_by d es
  pub shows : ShowsAfter s d (made_by d es) x

-- each of these is ready, and each device of a row is settled, or one of these
pub record AreMoved (s : Scenario) (es : List Entry) (made : List ℕ) (devices : List Device) (moved : List Moved)
    : Type 0 where
  pub counts : length made ≡ length s.rows
  pub count : length devices ≡ length s.rows
  pub each : (i : ℕ) (m : Moved) → slice_get moved i ≡ Some m → IsReady s es m
  pub rest : (d : ℕ) (x : Device) → slice_get devices d ≡ Some x → IsSettled s es made d x ⊎ IsAmong moved d

-- how many events a device takes in a move from the place after its first steps of the one number to that after those
-- of the other: on, those between; back, those after the last multiple of 64
abbrev pub steps_between : Scenario → ℕ → ℕ → ℕ → ℕ
steps_between s d from to =
    (if nat_le from to
    then (events_by s d to - events_by s d from)
    else (events_by s d to - events_by s d (64 * (to / 64))))

-- how many all devices take in a move from the one place to the other
abbrev pub steps_over : Scenario → List Entry → ℕ → ℕ → ℕ
steps_over s es from to =
    sum_by (λ d. steps_between s d (made_by d (take from es)) (made_by d (take to es)))
    (range_with_len 0 (length s.rows))

-- how many all devices take in a move to this place
abbrev pub steps_to : Session → ℕ → ℕ
steps_to v to = steps_over v.scenario v.entries v.place to
