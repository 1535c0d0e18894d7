-- The devices so far are listed, if they wait.
use Rattle.std.proofs.Common.{◌≡◌, ℕ, ◌<◌, length, Some, slice_get}
use Rattle.device_stations.specs.declared.station.Station.{Station}
use Rattle.shared_trace.specs.Kept.{IsListedAt}
use Rattle.shared_trace.proofs.roster.Roster.new.Given as goal

abbrev pub invariant-loop-device : goal.invariant-loop-device
invariant-loop-device l =
    (length l.waiting.items ≡ l.places)
    × ((i : ℕ) (x : Station) → i < l.device → slice_get l.stations i ≡ Some x → IsListedAt l.waiting.items i x.next)
