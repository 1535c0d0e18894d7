-- The paths of a Discover's links ascend.
use Rattle.std.proofs.Common.{◌≡◌, ◌≢◌, ℕ, ◌<◌, true, false, cond, ◌==◌, List, [], ◌∷◌, map, ap}
use Rattle.std.proofs.Common.{Some, inl, inr, refl, sym, subst, arith}
use Rattle.std.proofs.Math.Dec.{T}
use Rattle.std.specs.FinMap as map
use Rattle.std.specs.FinMap.{is_sorted}
use Rattle.std.specs.FinMap.Entries.{below_all}
use Rattle.std.specs.List.{AllByRecursion}
use Rattle.std.specs.List.Sorted.{IsStrictlyIncreasing, IsStrictlySortedBy}
use Rattle.std.specs.Ordering.{nat_cmp, is_lt}
use Rattle.std.specs.declared.cmp.Ordering.TheVariants.{Less}
use Rattle.std.proofs.lemmas.List.Elements.{recursion_from_All}
use Rattle.std.proofs.lemmas.Map.Keys.{sorted_from_strictly_increasing}
use Rattle.lemmas.proofs.Tests.{T_first, T_second, true_from_T}
use Rattle.lemmas.proofs.Numbers.{below_from_lt}
use Rattle.lemmas.proofs.Lists.{each_weaker, each_filtered}
use Rattle.object_defs.specs.declared.definition.ObjectDef.{ObjectDef}
use Rattle.object_defs.specs.declared.definition.ResourceDef.{ResourceDef}
use Rattle.object_defs.specs.declared.path.Path.{Path}
use Rattle.object_defs.specs.declared.path.Path.TheVariants.{Object, Instance, Resource, Part}
use Rattle.object_defs.specs.Catalog.{object_of}
use Rattle.object_defs.specs.Order.{IsInOrder}
use Rattle.instance_store.specs.Stored.{Stored, instances_of}
use Rattle.instance_store.proofs.InstanceLaws.{keys_of-under, sorted-under, under}
use Rattle.device_requests.specs.Discover.{instance_paths, linked_paths, resources_below}
use Rattle.device_requests.specs.Targets.{exists, resources_as, resources_defined}
use Rattle.laws_discover.proofs.Lists.{all_each, all_flat, all_mapped, Ordered}
use Rattle.laws_discover.proofs.Lists.{ordered_filtered, ordered_flat, ordered_mapped, ordered_unmapped}
use Rattle.laws_discover.proofs.Lists.{ordered_weaker, pairs}
use Rattle.laws_discover.specs.Order.{AreBefore, ComesBefore, LinksAscend, LinksDiffer, path_numbers}

-- the numbers of an object's instances ascend

below : (n : ℕ) (es : List (ℕ × Unit {0})) → T (below_all nat_cmp n es)
    → AllByRecursion (λ m. n < m) (map (λ e. e.0) es)
below n [] h = tt
below n (e ∷ es) h = (below_from_lt n e.0 (true_from_T _ (T_first _ _ h)), below n es (T_second _ _ h))

rising : (es : List (ℕ × Unit {0})) → T (is_sorted nat_cmp es) → Ordered (λ m n. m < n) (map (λ e. e.0) es)
rising [] h = tt
rising (e ∷ es) h = (below e.0 es (T_first _ _ h), rising es (T_second _ _ h))

instances_rise : (stored : Stored) (o : ℕ) → Ordered (λ m n. m < n) (instances_of stored o)
instances_rise stored o =
    let es = map.entries stored.instances in
    subst (Ordered (λ m n. m < n)) (sym (keys_of-under o es))
    (rising (under o es) (sorted-under o es (map.entries_sorted stored.instances)))

-- the numbers of an object's resources ascend

by_sorted : (ns : List ℕ) → IsStrictlySortedBy nat_cmp ns → Ordered (λ m n. m < n) ns
unfolding IsStrictlySortedBy
by_sorted [] h = tt
by_sorted (n ∷ ns) h = (
  each_weaker (λ m. nat_cmp n m ≡ Less) (λ m. n < m) (λ m less. below_from_lt n m (ap is_lt less)) ns h.0,
  by_sorted ns h.1,
)

defined_has : (P : List ResourceDef → Type 0) → P [] → (o : ℕ) (catalog : List ObjectDef)
    → AllByRecursion (λ d. P d.resources) catalog → P (resources_defined catalog o)
defined_has P none o [] h = none
defined_has P none o (d ∷ ds) h =
    elim (d.id == o) as (λ b. P (resources_as (cond b (Some d) (object_of ds o)))) [
      | true ↦ h.0
      | false ↦ defined_has P none o ds h.1
    ]

Rising : List ResourceDef → Type 0
Rising resources = IsStrictlyIncreasing (map (λ r. r.id) resources)

resources_rise : (catalog : List ObjectDef) (o : ℕ) → IsInOrder catalog
    → Ordered (λ c d. c.id < d.id) (resources_defined catalog o)
unfolding Rising
resources_rise catalog o h =
    let rises : Rising (resources_defined catalog o) =
    defined_has Rising (λ k short. absurd (omega arith)) o catalog
    (recursion_from_All (λ d. Rising d.resources) catalog h.resources) in
    ordered_unmapped (λ m n. m < n) (λ r. r.id) (resources_defined catalog o)
    (by_sorted (map (λ r. r.id) (resources_defined catalog o)) (sorted_from_strictly_increasing _ rises))

-- the links ascend

LiesIn : ℕ → ℕ → Path → Type 0
LiesIn o i p = (rest : List ℕ) × (path_numbers p ≡ o ∷ i ∷ rest)

below_rise : (catalog : List ObjectDef) (stored : Stored) (o i : ℕ) → IsInOrder catalog
    → Ordered ComesBefore (resources_below catalog stored o i)
below_rise catalog stored o i h =
    ordered_filtered ComesBefore (exists catalog stored) _
    (ordered_mapped ComesBefore (λ d. Resource o i d.id) (resources_defined catalog o)
    (ordered_weaker (λ c d. c.id < d.id) (λ c d. ComesBefore (Resource o i c.id) (Resource o i d.id))
    (λ c d l. inr (refl, inr (refl, inl l))) (resources_defined catalog o) (resources_rise catalog o h)))

below_are : (P : Path → Type 0) (catalog : List ObjectDef) (stored : Stored) (o i : ℕ)
    → ((r : ℕ) → P (Resource o i r)) → AllByRecursion P (resources_below catalog stored o i)
below_are P catalog stored o i each =
    each_filtered P (exists catalog stored) _
    (all_mapped P (λ d. Resource o i d.id) (resources_defined catalog o)
    (all_each _ (λ d. each d.id) (resources_defined catalog o)))

instance_rises : (catalog : List ObjectDef) (stored : Stored) (o i : ℕ) → IsInOrder catalog
    → Ordered ComesBefore (instance_paths catalog stored o i)
instance_rises catalog stored o i h = (
  below_are (ComesBefore (Instance o i)) catalog stored o i (λ r. inr (refl, inr (refl, tt))),
  below_rise catalog stored o i h,
)

instance_lies : (catalog : List ObjectDef) (stored : Stored) (o i : ℕ)
    → AllByRecursion (LiesIn o i) (instance_paths catalog stored o i)
unfolding LiesIn
instance_lies catalog stored o i =
    (([], refl), below_are (LiesIn o i) catalog stored o i (λ r. (r ∷ [], refl)))

in_order : (o i j : ℕ) (p q : Path) → i < j → LiesIn o i p → LiesIn o j q → ComesBefore p q
unfolding LiesIn
in_order o i j p q l h k =
    subst (λ ms. AreBefore ms (path_numbers q)) (sym h.1)
    (subst (AreBefore (o ∷ i ∷ h.0)) (sym k.1) (inr (refl, inl l)))

under_object : (o i : ℕ) (p : Path) → LiesIn o i p → ComesBefore (Object o) p
unfolding LiesIn
under_object o i p h = subst (AreBefore (o ∷ [])) (sym h.1) (inr (refl, tt))

links_rise : (catalog : List ObjectDef) (stored : Stored) (path : Path) → IsInOrder catalog
    → Ordered ComesBefore (linked_paths catalog stored path)
links_rise catalog stored (Object o) h = (
  all_flat (ComesBefore (Object o)) (instance_paths catalog stored o) (instances_of stored o)
      (λ i. each_weaker (LiesIn o i) (ComesBefore (Object o)) (under_object o i)
      (instance_paths catalog stored o i) (instance_lies catalog stored o i)),
  ordered_flat (λ m n. m < n) ComesBefore (LiesIn o) (instance_paths catalog stored o)
      (λ i. instance_rises catalog stored o i h) (instance_lies catalog stored o) (in_order o)
      (instances_of stored o) (instances_rise stored o),
)
links_rise catalog stored (Instance o i) h = instance_rises catalog stored o i h
links_rise catalog stored (Resource o i r) h = (tt, tt)
links_rise catalog stored (Part o i r n) h = (tt, tt)

pub links_ascend : LinksAscend
links_ascend catalog stored path h =
    pairs ComesBefore (linked_paths catalog stored path) (links_rise catalog stored path h)

not_before_itself : (ns : List ℕ) → AreBefore ns ns → ⊥
not_before_itself [] h = h
not_before_itself (n ∷ ns) (inl l) = omega (arith, l)
not_before_itself (n ∷ ns) (inr h) = not_before_itself ns h.1

differs : (p q : Path) → ComesBefore p q → p ≢ q
differs p q h e = not_before_itself (path_numbers q) (subst (λ r. ComesBefore r q) e h)

pub links_differ : LinksDiffer
links_differ catalog stored path h = λ i j d l short. differs _ _ (links_ascend catalog stored path h i j d l short)
