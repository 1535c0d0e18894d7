-- What holds of each element of a list at its place, as far as it was looked at.
use Rattle.std.proofs.Common.{◌≡◌, ℕ, ◌<◌, List, Some, slice_get}

-- it holds of each element before place n
pub record HoldsBefore {X : Type 0} (P : ℕ → X → Type 0) (xs : List X) (n : ℕ) : Type 0 where
  pub each : (k : ℕ) → k < n → (x : X) → slice_get xs k ≡ Some x → P k x
