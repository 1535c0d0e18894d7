use Rattle.std.proofs.Common.{◌≡◌, ℕ, ◌<◌, true, Some, slice_get}
use Rattle.device_stations.specs.declared.station.Station.{Station}
use Rattle.device_stations.specs.Stations.{is_end}
use Rattle.device_stations.proofs.station.first_left.Given as goal

abbrev pub invariant-loop-device : goal.invariant-loop-device
invariant-loop-device l = (i : ℕ) (x : Station) → i < l.device → slice_get l.stations i ≡ Some x → is_end x.next ≡ true
