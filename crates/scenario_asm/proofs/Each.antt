-- What holds of each in a list.
use Rattle.std.proofs.Common.{◌≡◌, ℕ, Bool, true, false, cond, ltb, List, [], ◌∷◌, map}
use Rattle.std.proofs.Common.{Ordering, refl}
use Rattle.std.specs.List.{AllByRecursion}
use Rattle.std.specs.declared.cmp.Ordering.TheVariants.{Less, Equal, Greater}
use Rattle.std.specs.FinMap.Entries.{put, by_order}
use Rattle.object_defs.specs.Vendor.{with_inserted}

pub chosen : {A : Type 0} (P : A → Type 0) (b : Bool) (x y : A) → (b ≡ true → P x) → (b ≡ false → P y) → P (cond b x y)
chosen P true x y h k = h refl
chosen P false x y h k = k refl

pub each_map : {A B : Type 0} (Q : A → Type 0) (P : B → Type 0) (f : A → B) → ((a : A) → Q a → P (f a)) → (xs : List A)
    → AllByRecursion Q xs → AllByRecursion P (map f xs)
each_map Q P f g [] h = tt
each_map Q P f g (x ∷ xs) h = (g x h.0, each_map Q P f g xs h.1)

pub each_inserted : {A : Type 0} (P : A → Type 0) (number : A → ℕ) (x : A) (ys : List A) → P x → AllByRecursion P ys
    → AllByRecursion P (with_inserted number x ys)
each_inserted P number x [] h k = (h, tt)
each_inserted P number x (y ∷ ys) h k =
    chosen (AllByRecursion P) (ltb (number x) (number y)) (x ∷ y ∷ ys) (y ∷ with_inserted number x ys) (λ e. (h, k))
    (λ e. (k.0, each_inserted P number x ys h k.1))

-- what holds of each key and of each value holds of a key and a value more
pub each_put : {K X : Type 0} (R : K → K → Ordering) (P : K → Type 0) (Q : X → Type 0) (k : K) (v : X)
    (es : List (K × X)) → P k → Q v → AllByRecursion (λ (e : K × X). P e.0 × Q e.1) es
    → AllByRecursion (λ (e : K × X). P e.0 × Q e.1) (put R k v es)
each_put R P Q k v [] p q h = ((p, q), tt)
each_put R P Q k v (e ∷ es) p q h =
    elim (R k e.0) as (λ o. AllByRecursion (λ (e : _ × _). P e.0 × Q e.1)
    (by_order o ((k, v) ∷ e ∷ es) ((e.0, v) ∷ es) (e ∷ put R k v es))) [
      | Less ↦ ((p, q), h)
      | Equal ↦ ((h.0.0, q), h.1)
      | Greater ↦ (h.0, each_put R P Q k v es p q h.1)
    ]
