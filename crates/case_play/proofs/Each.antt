-- What holds of each element of a list, as far as it was looked at.
use Rattle.std.proofs.Common.{◌≡◌, ℕ, ◌+◌, ◌<◌, ◌≤◌, List, length, Some, slice_get, sym, subst, ◌∙◌, arith, below_more}
use Rattle.std.proofs.lemmas.Option.{same_Some, slice_get_within}

-- it holds of each element before place n
pub record HoldsTo {X : Type 0} (P : X → Type 0) (xs : List X) (n : ℕ) : Type 0 where
  pub each : (k : ℕ) → k < n → (x : X) → slice_get xs k ≡ Some x → P x

pub to_first : {X : Type 0} (P : X → Type 0) (xs : List X) → HoldsTo P xs 0
to_first P xs = record { each = λ k less. absurd (omega (arith, less)) }

pub to_next : {X : Type 0} (P : X → Type 0) (xs : List X) (i : ℕ) (x : X) → HoldsTo P xs i → slice_get xs i ≡ Some x
    → P x → HoldsTo P xs (i + 1)
to_next P xs i x before at is = record {
  each = below_more (λ k. (y : _) → slice_get xs k ≡ Some y → P y) i before.each
      (λ y there. subst P (same_Some x y (sym at ∙ there)) is);
}

pub to_all : {X : Type 0} (P : X → Type 0) (xs : List X) (n : ℕ) → HoldsTo P xs n → length xs ≤ n → (k : ℕ) (x : X)
    → slice_get xs k ≡ Some x → P x
to_all P xs n before end k x at = before.each k (omega (arith, end, slice_get_within xs k x at)) x at
