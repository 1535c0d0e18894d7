-- The first place in a list at which a test passes.
use Rattle.std.proofs.Common.{◌≡◌, ℕ, zero, suc, ◌+◌, Bool, true, false, cond, ◌||◌, List, [], ◌∷◌, Some}
use Rattle.std.proofs.Common.{position, slice_get, refl, sym, ap, subst, ◌∙◌, arith}
use Rattle.std.specs.List.{position_from, list_any, find}
use Rattle.std.specs.Option.{is_some}
use Rattle.std.proofs.lemmas.Iterator.Adapters.{position_from-zero}

-- the test passes at this place and at none before
abbrev pub IsFirst : {X : Type 0} → (X → Bool) → List X → ℕ → Type 0
IsFirst p [] i = ⊥
IsFirst p (x ∷ xs) zero = p x ≡ true
IsFirst p (x ∷ xs) (suc i) = (p x ≡ false) × IsFirst p xs i

first_from : {X : Type 0} (p : X → Bool) (xs : List X) (n m : ℕ) → position_from p n xs ≡ Some m → (i : ℕ) × (m ≡ n + i)
    × IsFirst p xs i
first_from p [] n m h = cc
first_from p (x ∷ xs) n m h =
    elim (p x) as (λ b. p x ≡ b → cond b (Some n) (position_from p (n + 1) xs) ≡ Some m → (i : ℕ) × (m ≡ n + i)
    × IsFirst p (x ∷ xs) i) [
      | true ↦ λ e k. let same : n ≡ m = cc in (zero, omega arith, e)
      | false ↦ λ e k. let rest = first_from p xs (n + 1) m k in (suc rest.0, omega (arith, rest.1), (e, rest.2))
    ] refl h

pub first_place : {X : Type 0} (p : X → Bool) (xs : List X) (i : ℕ) → position p xs ≡ Some i → IsFirst p xs i
first_place p xs i h =
    let found = first_from p xs 0 i (sym (position_from-zero p xs) ∙ h) in
    let same : found.0 ≡ i = omega (arith, found.1) in
    subst (IsFirst p xs) same found.2

pub any_first : {X : Type 0} (p : X → Bool) (xs : List X) (i : ℕ) → IsFirst p xs i → list_any p xs ≡ true
any_first p [] i h = absurd h
any_first p (x ∷ xs) zero h = ap (λ b. b || list_any p xs) h
any_first p (x ∷ xs) (suc i) h = ap (λ b. b || list_any p xs) h.0 ∙ any_first p xs i h.1

pub find_first : {X : Type 0} (p : X → Bool) (xs : List X) (i : ℕ) → IsFirst p xs i → find p xs ≡ slice_get xs i
find_first p [] i h = absurd h
find_first p (x ∷ xs) zero h = ap (λ b. cond b (Some x) (find p xs)) h
find_first p (x ∷ xs) (suc i) h = ap (λ b. cond b (Some x) (find p xs)) h.0 ∙ find_first p xs i h.1

pub passes_first : {X : Type 0} (p : X → Bool) (xs : List X) (i : ℕ) (x : X) → IsFirst p xs i → slice_get xs i ≡ Some x
    → p x ≡ true
passes_first p [] i x h at = absurd h
passes_first p (y ∷ ys) zero x h at = let same : y ≡ x = cc in ap p (sym same) ∙ h
passes_first p (y ∷ ys) (suc i) x h at = passes_first p ys i x h.1 at

any_from : {X : Type 0} (p : X → Bool) (xs : List X) (n : ℕ) → list_any p xs ≡ is_some (position_from p n xs)
any_from p [] n = refl
any_from p (x ∷ xs) n =
    elim (p x) as (λ b. (b || list_any p xs) ≡ is_some (cond b (Some n) (position_from p (n + 1) xs))) [
      | true ↦ refl
      | false ↦ any_from p xs (n + 1)
    ]

-- a test passes somewhere where there is a first place
pub any_place : {X : Type 0} (p : X → Bool) (xs : List X) → list_any p xs ≡ is_some (position p xs)
any_place p xs = any_from p xs 0 ∙ ap is_some (sym (position_from-zero p xs))
