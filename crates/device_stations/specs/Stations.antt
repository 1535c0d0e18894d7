-- What is kept of devices: where each is, and what its next step asks for.
use Rattle.std.specs.Prelude.{◌≡◌, ℕ, ◌<◌, Bool, true, false, List, Some, slice_get}
use Rattle.fleet_core.specs.declared.next.Next.{Next}
use Rattle.fleet_core.specs.declared.next.Next.TheVariants.{End, Free, Waits}
use Rattle.fleet_core.specs.Next.{may_pass}
use Rattle.device_stations.specs.declared.station.Place.{Place}
use Rattle.device_stations.specs.declared.station.Place.TheVariants.{Parked, Out}
use Rattle.device_stations.specs.declared.station.Station.{Station}

-- the device has no next step
abbrev pub is_end : Next → Bool
is_end End = true
is_end Free = false
is_end (Waits group count) = false

abbrev pub is_parked : Place → Bool
is_parked (Parked x) = true
is_parked (Out worker) = false

-- the device is parked, and its next step may be made where each group has this many posts
abbrev pub is_ready_in : (ℕ → ℕ) → Place → Next → Bool
is_ready_in posts (Parked x) next = may_pass posts next
is_ready_in posts (Out worker) next = false

abbrev pub is_ready : (ℕ → ℕ) → Station → Bool
is_ready posts x = is_ready_in posts x.place x.next

-- each device before this one is at the end of its row
abbrev pub AreEnded : List Station → ℕ → Type 0
AreEnded stations low =
    (i : ℕ) (x : Station) → i < low → slice_get stations i ≡ Some x → is_end x.next ≡ true

-- no device before this one is ready
abbrev pub AreIdle : (ℕ → ℕ) → List Station → ℕ → Type 0
AreIdle posts stations first =
    (i : ℕ) (x : Station) → i < first → slice_get stations i ≡ Some x → is_ready posts x ≡ false
