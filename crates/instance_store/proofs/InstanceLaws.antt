-- The instances of one object among those of all, by their numbers.
use Rattle.std.proofs.Common.{◌≡◌, ℕ, true, false, cond, eqb, List, [], ◌∷◌}
use Rattle.std.proofs.Common.{map, Some, refl, ap, subst, ◌∙◌}
use Rattle.std.proofs.Common.{arith}
use Rattle.std.specs.List.{filter}
use Rattle.std.specs.Ordering.{nat_cmp, eq_by_cmp, is_lt}
use Rattle.std.specs.FinMap.{find, is_sorted}
use Rattle.std.specs.FinMap.Entries.{below_all}
use Rattle.std.proofs.Math.Dec.{T}
use Rattle.std.proofs.lemmas.Bool.Decides.{nat_tests}
use Rattle.lemmas.proofs.Tests.{T_both, T_first, T_second}
use Rattle.object_defs.specs.declared.path.InstancePath.{InstancePath}
use Rattle.object_defs.specs.Path.{instance_cmp}

abbrev pub place : ℕ → ℕ → InstancePath
place o n = record { object = o; instance = n }

-- the instances of one object among all, by their numbers alone
pub under : ℕ → List (InstancePath × Unit {0}) → List (ℕ × Unit {0})
under o [] = []
under o (e ∷ es) = cond (eqb e.0.object o) ((e.0.instance, e.1) ∷ under o es) (under o es)

pub keys_of-under : (o : ℕ) (es : List (InstancePath × Unit {0}))
    → map (λ p. p.instance) (filter (λ p. eqb p.object o) (map (λ e. e.0) es)) ≡ map (λ e. e.0) (under o es)
unfolding under
keys_of-under o [] = refl
keys_of-under o (e ∷ es) =
    elim (eqb e.0.object o) as (λ b. map (λ (p : InstancePath). p.instance)
    (cond b (e.0 ∷ filter (λ p. eqb p.object o) (map (λ e. e.0) es))
    (filter (λ p. eqb p.object o) (map (λ e. e.0) es)))
    ≡ map (λ (e : ℕ × Unit {0}). e.0) (cond b ((e.0.instance, e.1) ∷ under o es) (under o es))) [
      | true ↦ ap (λ t. e.0.instance ∷ t) (keys_of-under o es)
      | false ↦ keys_of-under o es
    ]

tied_under : (o n : ℕ) (x : InstancePath) → eqb x.object o ≡ true
    → eq_by_cmp nat_cmp n x.instance ≡ eq_by_cmp instance_cmp (place o n) x
tied_under o n x h = grind (arith, nat_tests)

apart_under : (o n : ℕ) (x : InstancePath) → eqb x.object o ≡ false → false ≡ eq_by_cmp instance_cmp (place o n) x
apart_under o n x h = grind (arith, nat_tests)

pub find-under : (o : ℕ) (es : List (InstancePath × Unit {0})) (n : ℕ)
    → find nat_cmp n (under o es) ≡ find instance_cmp (place o n) es
unfolding under
find-under o [] n = refl
find-under o (e ∷ es) n =
    elim (eqb e.0.object o) as (λ b. eqb e.0.object o ≡ b
    → find nat_cmp n (cond b ((e.0.instance, e.1) ∷ under o es) (under o es))
    ≡ cond (eq_by_cmp instance_cmp (place o n) e.0) (Some e.1) (find instance_cmp (place o n) es)) [
      | true ↦ λ h. ap (λ b. cond b (Some e.1) (find nat_cmp n (under o es))) (tied_under o n e.0 h)
          ∙ ap (cond (eq_by_cmp instance_cmp (place o n) e.0) (Some e.1)) (find-under o es n)
      | false ↦ λ h. find-under o es n ∙ ap (λ b. cond b (Some e.1) (find instance_cmp (place o n) es))
          (apart_under o n e.0 h)
    ] refl

less_under : (o : ℕ) (k x : InstancePath) → eqb k.object o ≡ true → eqb x.object o ≡ true
    → is_lt (instance_cmp k x) ≡ is_lt (nat_cmp k.instance x.instance)
less_under o k x g h = grind (arith, nat_tests)

below-under : (o : ℕ) (k : InstancePath) (es : List (InstancePath × Unit {0})) → eqb k.object o ≡ true
    → T (below_all instance_cmp k es) → T (below_all nat_cmp k.instance (under o es))
unfolding under
below-under o k [] g h = tt
below-under o k (e ∷ es) g h =
    let rest = below-under o k es g (T_second _ _ h) in
    elim (eqb e.0.object o) as (λ b. eqb e.0.object o ≡ b
    → T (below_all nat_cmp k.instance (cond b ((e.0.instance, e.1) ∷ under o es) (under o es)))) [
      | true ↦ λ i. T_both _ _ (subst T (less_under o k e.0 g i) (T_first _ _ h)) rest
      | false ↦ λ i. rest
    ] refl

pub sorted-under : (o : ℕ) (es : List (InstancePath × Unit {0})) → T (is_sorted instance_cmp es)
    → T (is_sorted nat_cmp (under o es))
unfolding under
sorted-under o [] h = tt
sorted-under o (e ∷ es) h =
    let rest = sorted-under o es (T_second _ _ h) in
    elim (eqb e.0.object o) as (λ b. eqb e.0.object o ≡ b
    → T (is_sorted nat_cmp (cond b ((e.0.instance, e.1) ∷ under o es) (under o es)))) [
      | true ↦ λ i. T_both _ _ (below-under o e.0 es i (T_first _ _ h)) rest
      | false ↦ λ i. rest
    ] refl
