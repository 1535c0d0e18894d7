-- Lists that are looked through, one element after another.
use Rattle.std.proofs.Common.{◌≡◌, ℕ, ◌+◌, ◌<◌, ◌≤◌, ◌⊎◌, inl, inr, List, length}
use Rattle.std.proofs.Common.{get_or, Option, Some, slice_get, refl, sym, subst, ◌∙◌, arith}
use Rattle.std.proofs.lemmas.Bool.{cases_lt}
use Rattle.std.proofs.lemmas.Option.{slice_get_read, slice_get_within}
use Rattle.device_stations.specs.declared.station.Station.{Station}

pub same_some : {X : Type 0} (o : Option X) (x y : X) → o ≡ Some x → o ≡ Some y → x ≡ y
same_some o x y p q = let e : Some x ≡ Some y = sym p ∙ q in cc

scan_at : {X : Type 0} (P : X → Type 0) (xs : List X) (n : ℕ) (y : X) → slice_get xs n ≡ Some y → P y
    → ((i : ℕ) (x : X) → i < n → slice_get xs i ≡ Some x → P x) → (i : ℕ) (x : X) → i < n + 1 → slice_get xs i ≡ Some x
    → (i < n) ⊎ (n ≤ i) → P x
scan_at P xs n y here own before i x less at (inl lt) = before i x lt at
scan_at P xs n y here own before i x less at (inr ge) =
    let same : i ≡ n = omega (arith, less, ge) in
    subst P (same_some (slice_get xs n) y x here (subst (λ j. slice_get xs j ≡ Some x) same at)) own

-- what holds of the elements before a place, and of the one at it, holds before the next place
pub scan_more : {X : Type 0} (P : X → Type 0) (xs : List X) (n : ℕ) (y : X) → n < length xs → y ≡ get_or xs n y → P y
    → ((i : ℕ) (x : X) → i < n → slice_get xs i ≡ Some x → P x) → (i : ℕ) (x : X) → i < n + 1 → slice_get xs i ≡ Some x
    → P x
scan_more P xs n y within read here before i x less at =
    scan_at P xs n y (slice_get_read xs (length xs) n y refl within read) here before i x less at (cases_lt i n)

pub scan_end : {X : Type 0} (P : X → Type 0) (xs : List X) (n : ℕ) → length xs ≤ n
    → ((i : ℕ) (x : X) → i < n → slice_get xs i ≡ Some x → P x)
    → (i : ℕ) (x : X) → slice_get xs i ≡ Some x → P x
scan_end P xs n past before i x at = before i x (omega (arith, slice_get_within xs i x at, past)) at

-- ---- the station of a device

-- as an index reads it
pub found_at : (stations : List Station) (i d : ℕ) (x : Station) → i ≡ d → i < length stations → x ≡ get_or stations i x
    → slice_get stations d ≡ Some x
found_at stations i d x from within read =
    subst (λ j. slice_get stations j ≡ Some x) from (slice_get_read stations (length stations) i x refl within read)
