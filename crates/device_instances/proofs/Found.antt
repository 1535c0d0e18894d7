-- The first number below a limit that passes a test.
use Rattle.std.proofs.Common.{◌≡◌, ℕ, zero, suc, ◌<◌, Bool, true, false, cond, ltb, ltb-true, ltb-false, List, []}
use Rattle.std.proofs.Common.{◌∷◌, Option, None, Some, refl, sym, ap, subst, ◌∙◌, arith}
use Rattle.std.specs.List.{find}
use Rattle.std.specs.Option.{option_or, IfSome, IfNone}
use Rattle.std.proofs.lemmas.List.Folds.{find-append}
use Rattle.std.proofs.lemmas.Bool.{not_from_false, not_from_true, not-true, not-false}
use Rattle.lemmas.proofs.Options.{no_choice}
use Rattle.instance_store.specs.Stored.{Stored, has_instance}
use Rattle.device_instances.specs.Numbers.{numbers_below, is_free, instance_at, smallest_free, IsSmallestFree}
use Rattle.device_instances.specs.Numbers.{AllAreTaken}

none_below : (p : ℕ → Bool) (n : ℕ) → ((k : ℕ) → k < n → p k ≡ false) → find p (numbers_below n) ≡ None
unfolding numbers_below
none_below p zero h = refl
none_below p (suc n) h =
    find-append p (numbers_below n) (n ∷ [])
    ∙ ap (λ o. option_or o (find p (n ∷ []))) (none_below p n (λ k l. h k (omega arith)))
    ∙ ap (λ b. cond b (Some n) None) (h n (omega arith))

first_below : (p : ℕ → Bool) (n m : ℕ) → m < n → p m ≡ true → ((k : ℕ) → k < m → p k ≡ false)
    → find p (numbers_below n) ≡ Some m
unfolding numbers_below
first_below p zero m l h low = absurd (omega arith)
first_below p (suc n) m l h low =
    find-append p (numbers_below n) (n ∷ [])
    ∙ elim (ltb m n) as (λ b. ltb m n ≡ b → option_or (find p (numbers_below n)) (find p (n ∷ [])) ≡ Some m) [
      | true ↦ λ t. ap (λ o. option_or o (find p (n ∷ []))) (first_below p n m (ltb-true m n t) h low)
      | false ↦ λ t.
          let e : m ≡ n = omega (arith, ltb-false m n t) in
          ap (λ o. option_or o (find p (n ∷ []))) (none_below p n (λ k k<n. low k (omega arith)))
          ∙ ap (λ b. cond b (Some n) None) (subst (λ k. p k ≡ true) e h) ∙ ap Some (sym e)
    ] refl

pub found : (stored : Stored) (object n : ℕ) → IsSmallestFree stored object n → smallest_free stored object ≡ Some n
found stored object n h =
    first_below (is_free stored object) 65535 n h.small (not_from_false _ h.free)
    (λ k l. not_from_true _ (h.smallest k l))

pub missing : (stored : Stored) (object : ℕ) → AllAreTaken stored object → smallest_free stored object ≡ None
missing stored object h = none_below (is_free stored object) 65535 (λ k l. not_from_true _ (h k l))

pub decided : (stored : Stored) (object : ℕ) (r : Option ℕ) → IfSome r (IsSmallestFree stored object)
    → IfNone r (AllAreTaken stored object) → r ≡ smallest_free stored object
decided stored object None h k = sym (missing stored object k)
decided stored object (Some n) h k = sym (found stored object n h)

-- what is found passes
passes : (p : ℕ → Bool) (xs : List ℕ) (m : ℕ) → find p xs ≡ Some m → p m ≡ true
passes p [] m h = cc
passes p (x ∷ xs) m h =
    elim (p x) as (λ b. p x ≡ b → cond b (Some x) (find p xs) ≡ Some m → p m ≡ true) [
      | true ↦ λ e k. let same : x ≡ m = cc in subst (λ y. p y ≡ true) same e
      | false ↦ λ e k. passes p xs m k
    ] refl h

pub found_free : (stored : Stored) (object n : ℕ) → smallest_free stored object ≡ Some n
    → has_instance stored (instance_at object n) ≡ false
found_free stored object n h = not-true _ (passes (is_free stored object) (numbers_below 65535) n h)

-- where nothing is found, all fail
both_none : (a b : Option ℕ) → option_or a b ≡ None → (a ≡ None) × (b ≡ None)
both_none None b h = (refl, h)
both_none (Some x) b h = cc

all_fail : (p : ℕ → Bool) (n : ℕ) → find p (numbers_below n) ≡ None → (k : ℕ) → k < n → p k ≡ false
unfolding numbers_below
all_fail p zero h k l = absurd (omega arith)
all_fail p (suc n) h k l =
    let parts = both_none (find p (numbers_below n)) (find p (n ∷ []))
    (sym (find-append p (numbers_below n) (n ∷ [])) ∙ h) in
    elim (ltb k n) as (λ b. ltb k n ≡ b → p k ≡ false) [
      | true ↦ λ t. all_fail p n parts.0 k (ltb-true k n t)
      | false ↦ λ t. let e : k ≡ n =
          omega (arith, ltb-false k n t) in subst (λ m. p m ≡ false) (sym e) (no_choice (p n) n parts.1)
    ] refl

pub all_taken : (stored : Stored) (object : ℕ) → smallest_free stored object ≡ None → AllAreTaken stored object
all_taken stored object h = λ k l. not-false _ (all_fail (is_free stored object) 65535 h k l)
