-- The devices that are not at the end of their rows.
use Rattle.std.specs.Prelude.{ℕ, nat_lt, Bool, List, length, filter, slice_get}
use Rattle.std.specs.List.{range_with_len}
use Rattle.scenario_image.specs.Scenario.{Scenario}
use Rattle.trace_file.specs.declared.entry.Entry.{Entry}
use Rattle.fleet_core.specs.Run.{steps_in, made_by}

-- the device has fewer entries than its row has steps
abbrev pub is_waiting : Scenario → List Entry → ℕ → Bool
is_waiting s es d = nat_lt (made_by d es) (length (steps_in (slice_get s.rows d)))

-- the devices that have, in ascending order
abbrev pub waiting_devices : Scenario → List Entry → List ℕ
waiting_devices s es = filter (is_waiting s es) (range_with_len 0 (length s.rows))
