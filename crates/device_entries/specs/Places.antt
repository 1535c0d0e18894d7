-- Where in a run a device has its entries.
use Rattle.std.specs.Prelude.{◌≡◌, ℕ, List, length, take, Some, slice_get}
use Rattle.trace_file.specs.declared.entry.Entry.{Entry}
use Rattle.fleet_core.specs.Run.{made_by}
use Rattle.device_entries.specs.declared.places.Places.{Places}

-- the entry at this index is the device's, and before it are k others of the device
pub record IsPlace (es : List Entry) (d k index : ℕ) : Type 0 where
  pub entry : Entry
  pub stands : slice_get es index ≡ Some entry
  pub own : entry.device ≡ d
  pub before : made_by d (take index es) ≡ k

-- the indexes of all the device's entries among the first n, in their order
pub record HasPlaces (es : List Entry) (n d : ℕ) (indexes : List ℕ) : Type 0 where
  pub each : (k index : ℕ) → slice_get indexes k ≡ Some index → IsPlace es d k index
  pub count : length indexes ≡ made_by d (take n es)

-- so for each row
pub record ArePlaced (es : List Entry) (n : ℕ) (places : List Places) : Type 0 where
  pub each : (d : ℕ) (x : Places) → slice_get places d ≡ Some x → HasPlaces es n d x.indexes.items
