use Rattle.std.proofs.Common.{◌≡◌, ℕ, ◌<◌, false, Some, slice_get, slice_index}
use Rattle.device_stations.specs.declared.station.Station.{Station}
use Rattle.device_stations.specs.Stations.{is_ready}
use Rattle.device_stations.proofs.station.lowest_ready.Given as goal

abbrev pub invariant-loop-device : goal.invariant-loop-device
invariant-loop-device l =
    (i : ℕ) (x : Station) → i < l.device → slice_get l.stations i ≡ Some x
    → is_ready (λ g. slice_index l.posts g) x ≡ false
