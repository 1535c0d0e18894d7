-- The accounts of a class ascend.
use Rattle.std.proofs.Common.{◌≡◌, ℕ, ◌<◌, Bool, true, false, cond, eqb, ltb, List, [], ◌∷◌, None, Some, refl}
use Rattle.std.proofs.Common.{sym, arith}
use Rattle.std.specs.List.{AllByRecursion, list_any}
use Rattle.std.specs.List.Sorted.{IsStrictlyIncreasing, IsStrictlySortedBy}
use Rattle.std.specs.Ordering.{nat_cmp}
use Rattle.std.specs.declared.cmp.Ordering.TheVariants.{Less}
use Rattle.std.specs.Cmp.{nat_cmp_is}
use Rattle.std.proofs.lemmas.Bool.Decides.{nat_tests}
use Rattle.std.proofs.lemmas.Map.Keys.{IsStrictlyIncreasing-from_sorted}
use Rattle.lemmas.proofs.Numbers.{above_from_tests}
use Rattle.lemmas.proofs.Tests.{or_first, or_second}
use Rattle.object_defs.specs.Lines.{first_line}
use Rattle.object_defs.specs.Vendor.{with_inserted}
use Rattle.device_template.specs.Template.{Template}
use Rattle.device_template.specs.Built.{IsBuilt}
use Rattle.device_template.specs.Built.IsBuilt.{nothing, account, object, resource, instance, value, notify}
use Rattle.device_template.specs.declared.fault.TemplateFault.TheVariants.{Range, Duplicate, Full}

-- each number is below all those after it
abbrev pub Rises : List ℕ → Type 0
Rises [] = Unit {0}
Rises (x ∷ xs) = AllByRecursion (λ y. x < y) xs × Rises xs

less_all : (x : ℕ) (xs : List ℕ) → AllByRecursion (λ y. x < y) xs → AllByRecursion (λ y. nat_cmp x y ≡ Less) xs
less_all x [] h = tt
less_all x (y ∷ ys) h = (sym (nat_cmp_is x y Less h.0), less_all x ys h.1)

sorted : (xs : List ℕ) → Rises xs → IsStrictlySortedBy nat_cmp xs
unfolding IsStrictlySortedBy
sorted [] h = tt
sorted (x ∷ xs) h = (less_all x xs h.0, sorted xs h.1)

below_all : (x y : ℕ) (ys : List ℕ) → x < y → AllByRecursion (λ z. y < z) ys → AllByRecursion (λ z. x < z) ys
below_all x y [] h k = tt
below_all x y (z ∷ zs) h k = (omega (arith, h, k.0), below_all x y zs h k.1)

all_inserted : (P : ℕ → Type 0) (x : ℕ) (ys : List ℕ) → P x → AllByRecursion P ys
    → AllByRecursion P (with_inserted (λ a. a) x ys)
all_inserted P x [] h k = (h, tt)
all_inserted P x (y ∷ ys) h k =
    elim (ltb x y) as (λ b. AllByRecursion P (cond b (x ∷ y ∷ ys) (y ∷ with_inserted (λ a. a) x ys))) [
      | true ↦ (h, k)
      | false ↦ (k.0, all_inserted P x ys h k.1)
    ]

below : (x y : ℕ) → ltb x y ≡ true → x < y
below x y h = grind (arith, nat_tests)

pub rises-with_inserted : (x : ℕ) (xs : List ℕ) → list_any (λ a. eqb a x) xs ≡ false → Rises xs
    → Rises (with_inserted (λ a. a) x xs)
rises-with_inserted x [] new h = (tt, tt)
rises-with_inserted x (y ∷ ys) new h =
    elim (ltb x y) as (λ b. ltb x y ≡ b → Rises (cond b (x ∷ y ∷ ys) (y ∷ with_inserted (λ a. a) x ys))) [
      | true ↦ λ e. let l = below x y e in ((l, below_all x y ys l h.0), h)
      | false ↦ λ e. (
        all_inserted (λ z. y < z) x ys (above_from_tests x y e (or_first (eqb y x) _ new)) h.0,
        rises-with_inserted x ys (or_second (eqb y x) _ new) h.1,
      )
    ] refl

is_new : (a b c : Bool) → first_line ((a, Range) ∷ (b, Duplicate) ∷ (c, Full) ∷ []) ≡ None → b ≡ false
is_new true b c h = let e : Some Range ≡ None = h in cc
is_new false true c h = let e : Some Duplicate ≡ None = h in cc
is_new false false c h = refl

pub rises : (class : Template) → IsBuilt class → Rises class.accounts
rises _ nothing = tt
rises _ (account {class} server built free) =
    rises-with_inserted server class.accounts (is_new _ _ _ free) (rises class built)
rises _ (object {class} id built free) = rises class built
rises _ (resource {class} id d short built free) = rises class built
rises _ (instance {class} place short built free) = rises class built
rises _ (value {class} p v short good built free) = rises class built
rises _ (notify {class} seconds built fits) = rises class built

pub ascending : (class : Template) → IsBuilt class → IsStrictlyIncreasing class.accounts
ascending class built = IsStrictlyIncreasing-from_sorted class.accounts (sorted class.accounts (rises class built))
