-- How many steps devices take in a move to another place. A device takes an event; a post or a need it does not take.
use Rattle.std.specs.Prelude.{◌≡◌, ℕ, ◌+◌, ◌*◌, ◌<◌, ◌≤◌, Bool, false, nat_lt, List, length, filter, take, slice_range}
use Rattle.std.specs.Prelude.{Option, None, Some, slice_get}
use Rattle.std.specs.List.{count_by, sum_by, range_with_len}
use Rattle.scenario_image.specs.declared.step.Step.{Step}
use Rattle.scenario_image.specs.Play.{is_event}
use Rattle.scenario_image.specs.Scenario.{Scenario}
use Rattle.trace_file.specs.declared.entry.Entry.{Entry}
use Rattle.fleet_core.specs.Run.{made_by, step_at, steps_in}
use Rattle.debugger.specs.Session.{Session}

-- ---- forward

abbrev pub is_event_at : Option Step → Bool
is_event_at None = false
is_event_at (Some step) = is_event step

-- how many of these entries are those of events
abbrev pub events_among : Scenario → List Entry → ℕ
events_among s es = length (filter (λ e. is_event_at (step_at s e.device e.step)) es)

-- ---- back

-- how many devices have an entry among those from the first place to the second
abbrev pub devices_between : Session → ℕ → ℕ → ℕ
devices_between v from to =
    count_by (λ d. nat_lt 0 (made_by d (slice_range v.entries from to))) (range_with_len 0 (length v.scenario.rows))

-- how many events are among the first k steps of a row
abbrev pub events_by : Scenario → ℕ → ℕ → ℕ
events_by s d k = length (filter is_event (take k (steps_in (slice_get s.rows d))))

-- a device was copied after each 64 of its steps, and at the start: of the copies that are not after its first k steps
-- the latest was made after this number of steps
pub record IsLatestCopy (k copied : ℕ) : Type 0 where
  pub number : ℕ
  pub copied_is : copied ≡ 64 * number
  pub before : copied ≤ k
  pub latest : k < copied + 64

-- in a move back, from the place after its first steps of the one number to that after those of the other, a device
-- takes n events: none where it has no entry between the two; else those of its row from its latest copy on
pub record GoesBack (s : Scenario) (d from to n : ℕ) : Type 0 where
  pub still : from ≡ to → n ≡ 0
  pub again : (copied : ℕ) → IsLatestCopy to copied → to < from → events_by s d copied + n ≡ events_by s d to

-- in a move back to this place all devices together take n events
pub record IsReplayedBack (v : Session) (to n : ℕ) : Type 0 where
  pub each : ℕ → ℕ
  pub goes : (d : ℕ) → d < length v.scenario.rows
      → GoesBack v.scenario d (made_by d (take v.place v.entries)) (made_by d (take to v.entries)) (each d)
  pub all : n ≡ sum_by each (range_with_len 0 (length v.scenario.rows))
