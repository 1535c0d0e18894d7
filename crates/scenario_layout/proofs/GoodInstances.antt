-- The instances of a class have bytes.
use Rattle.std.proofs.Common.{◌≡◌, ℕ, suc, ◌+◌, ◌*◌, ◌<◌, ◌≤◌, Bool, true, false, cond, not, eqb, List, [], ◌∷◌, ◌++◌}
use Rattle.std.proofs.Common.{map, length, filter, Option, None, Some, refl, sym, ap, subst, ◌∙◌, arith, eqb-true}
use Rattle.std.specs.Prelude.{nat_le, is_some}
use Rattle.std.specs.List.{AllByRecursion, list_all, list_any}
use Rattle.std.specs.Int.{w16}
use Rattle.std.specs.Ordering.{is_lt}
use Rattle.std.specs.FinMap as finite
use Rattle.std.specs.FinMap.Entries.{find}
use Rattle.std.proofs.lemmas.Bool.Decides.{nat_tests}
use Rattle.std.proofs.lemmas.List.{map-append, length-map}
use Rattle.std.proofs.lemmas.List.Elements.{filter-append}
use Rattle.std.proofs.lemmas.Bool.{and_parts, and_from, not-false}
use Rattle.lemmas.proofs.Lists.{each_weaker, each_here}
use Rattle.lemmas.proofs.Options.{none_from_test}
use Rattle.lemmas.proofs.Numbers.{nat_le_below}
use Rattle.byte_layout.proofs.Fields.{number_good}
use Rattle.object_defs.specs.Base.{base}
use Rattle.object_defs.specs.Catalog.{object_of}
use Rattle.object_defs.specs.Lines.{first_line}
use Rattle.object_defs.specs.Path.{instance_cmp}
use Rattle.object_defs.specs.Vendor.{vendor_fault, with_object, with_resource}
use Rattle.object_defs.specs.declared.definition.ObjectDef.{ObjectDef}
use Rattle.object_defs.specs.declared.definition.ResourceDef.{ResourceDef}
use Rattle.object_defs.specs.declared.path.InstancePath.{InstancePath}
use Rattle.object_defs.proofs.LookUps.{object_absent, object_of-with_object_other}
use Rattle.object_defs.proofs.PathOrder.{instance_total}
use Rattle.instance_store.specs.Stored.{Stored, instances_of}
use Rattle.scenario_layout.proofs.GoodValue.{place_good}
use Rattle.device_template.specs.Template.{Template, instance_fault, may_stand}
use Rattle.device_template.specs.Built.{IsBuilt}
use Rattle.device_template.specs.Built.IsBuilt.{nothing, account, object, resource, instance, value, notify}
use Rattle.scenario_layout.specs.Class.{instances_in, with_instances, instances}
use Rattle.scenario_layout.specs.Class as layout
use Rattle.scenario_layout.proofs.Between.{all_more, taken_more, taken_before, each_good, found_any}
use Rattle.scenario_layout.proofs.Between.{below, not_true}
use Rattle.scenario_layout.proofs.Filling.{taken_none, no_entries}
use Rattle.scenario_layout.proofs.GoodObjects.{no_fault, same_numbers}
use Rattle.scenario_layout.proofs.Ordered.{is_true, map_units}
use Rattle.scenario_layout.proofs.Rising.{Ascends, keys_ascend, is_in_order, front_ascends, front_below, none_behind}
use Rattle.scenario_layout.proofs.Rising.{insert_more, map_ascends}

abbrev Entry : Type 0
Entry = InstancePath × Unit {0}

-- the numbers of an object's instances
abbrev numbers_of : ℕ → List Entry → List ℕ
numbers_of o es = map (λ p. p.instance) (filter (λ p. eqb p.object o) (map (λ e. e.0) es))

abbrev IsPlace : List ObjectDef → Entry → Type 0
IsPlace catalog e = (e.0.object < 65536) × (may_stand e.0 ≡ true) × (is_some (object_of catalog e.0.object) ≡ true)

pub record HasInstances (catalog : List ObjectDef) (es : List Entry) : Type 0 where
  each : AllByRecursion (IsPlace catalog) es
  few : (o : ℕ) → length (numbers_of o es) ≤ 64

joins : (o : ℕ) (xs ys : List Entry) → numbers_of o (xs ++ ys) ≡ numbers_of o xs ++ numbers_of o ys
joins o xs ys =
    ap (λ t. map (λ p. p.instance) (filter (λ p. eqb p.object o) t)) (map-append (λ (e : Entry). e.0) xs ys)
    ∙ ap (map (λ p. p.instance)) (filter-append (λ p. eqb p.object o) (map (λ e. e.0) xs) (map (λ e. e.0) ys))
    ∙ map-append (λ p. p.instance) (filter (λ p. eqb p.object o) (map (λ e. e.0) xs))
    (filter (λ p. eqb p.object o) (map (λ e. e.0) ys))

-- ---- a catalog that grows knows what it knew

clash : {X : Type 0} (o : Option X) → o ≡ None → is_some o ≡ true → ⊥
clash None none some = let e : false ≡ true = some in cc
clash (Some x) none some = let e : Some x ≡ None = none in cc

pub object_kept : (c : List ObjectDef) (id q : ℕ) → vendor_fault c id ≡ None → is_some (object_of c q) ≡ true
    → object_of (with_object c id) q ≡ object_of c q
object_kept c id q free some =
    object_of-with_object_other c id q (λ e. clash (object_of c q) (ap (object_of c) e ∙ object_absent c id free) some)

place_kept : (c : List ObjectDef) (id : ℕ) → vendor_fault c id ≡ None → (e : Entry) → IsPlace c e
    → IsPlace (with_object c id) e
place_kept c id free e h = (h.0, h.1, ap is_some (object_kept c id e.0.object free h.2) ∙ h.2)

place_known : (c : List ObjectDef) (id : ℕ) (d : ResourceDef) (e : Entry) → IsPlace c e
    → IsPlace (with_resource c id d) e
place_known c id d e h = (
  h.0,
  h.1,
  found_any (λ o. o.id) e.0.object (with_resource c id d) ∙ ap (list_any (λ m. eqb m e.0.object)) (same_numbers c id d)
      ∙ sym (found_any (λ o. o.id) e.0.object c) ∙ h.2,
)

-- ---- an instance more

four_lines : {X : Type 0} (a b c d : Bool) (x y z w : X) → first_line ((a, x) ∷ (b, y) ∷ (c, z) ∷ (d, w) ∷ []) ≡ None
    → (a ≡ false) × (b ≡ false) × (c ≡ false) × (d ≡ false)
four_lines true b c d x y z w h = absurd cc
four_lines false true c d x y z w h = absurd cc
four_lines false false true d x y z w h = absurd cc
four_lines false false false true x y z w h = absurd cc
four_lines false false false false x y z w h = (refl, refl, refl, refl)

no_four : {X : Type 0} (a b c d : Bool) (x y z w : X) → a ≡ false → b ≡ false → c ≡ false → d ≡ false
    → first_line ((a, x) ∷ (b, y) ∷ (c, z) ∷ (d, w) ∷ []) ≡ None
no_four true b c d x y z w h i j k = absurd cc
no_four false true c d x y z w h i j k = absurd cc
no_four false false true d x y z w h i j k = absurd cc
no_four false false false true x y z w h i j k = absurd cc
no_four false false false false x y z w h i j k = refl

one_seen : (o : ℕ) (p : InstancePath) (b : Bool)
    → length (map (λ (q : InstancePath). q.instance) (cond b (p ∷ []) [])) ≡ cond b 1 0
one_seen o p true = refl
one_seen o p false = refl

still_few : (o : ℕ) (p : InstancePath) (es new : List Entry) (b : Bool) → eqb p.object o ≡ b
    → length (numbers_of o new) ≡ length (numbers_of o es) + cond b 1 0
    → length (numbers_of p.object es) < 64 → length (numbers_of o es) ≤ 64 → length (numbers_of o new) ≤ 64
still_few o p es new true e more room few = let same : length (numbers_of o es) < 64 =
    subst (λ n. length (numbers_of n es) < 64) (eqb-true _ _ e) room in omega (arith, more, same)
still_few o p es new false e more room few = omega (arith, more, few)

instance_more : (c : List ObjectDef) (s : Stored) (p : InstancePath) → p.object < 65536
    → HasInstances c (finite.entries s.instances) → may_stand p ≡ true → is_some (object_of c p.object) ≡ true
    → finite.get s.instances p ≡ None → length (numbers_of p.object (finite.entries s.instances)) < 64
    → HasInstances c (finite.entries (finite.insert s.instances p tt))
instance_more c s p short before may known absent room =
    let more = insert_more instance_total s.instances p tt absent in
    let es = finite.entries s.instances in
    record {
      each = all_more (IsPlace c) (p, tt) es _ more (short, may, known) before.each;
      few = λ o. still_few o p es _ (eqb p.object o) refl
          (taken_more (numbers_of o) (joins o) (p, tt) es _ more
          ∙ ap (λ n. length (numbers_of o es) + n) (one_seen o p (eqb p.object o))) room (before.few o);
    }

pub has_instances : (class : Template) → IsBuilt class
    → HasInstances class.catalog (finite.entries class.store.instances)
has_instances _ nothing =
    subst (HasInstances base) (sym (no_entries instance_cmp)) (record { each = tt; few = λ o. omega arith })
has_instances _ (account {class} server built free) = has_instances class built
has_instances _ (object {class} id built free) =
    let before = has_instances class built in
    record { each = each_weaker _ _ (place_kept class.catalog id (no_fault _ free)) _ before.each; few = before.few }
has_instances _ (resource {class} id d short built free) =
    let before = has_instances class built in
    record { each = each_weaker _ _ (place_known class.catalog id d) _ before.each; few = before.few }
has_instances _ (instance {class} place short built free) =
    let lines = four_lines (not (may_stand place)) (not (is_some (object_of class.catalog place.object)))
    (is_some (finite.get class.store.instances place))
    (nat_le 64 (length (instances_of class.store place.object))) _ _ _ _ free in
    instance_more class.catalog class.store place short (has_instances class built) (not-false _ lines.0)
    (not-false _ lines.1) (none_from_test _ lines.2) (below _ 64 lines.3)
has_instances _ (value {class} p v short good built free) = has_instances class built
has_instances _ (notify {class} seconds built fits) = has_instances class built

-- ---- how many instances there are: 64 of an object at most

abbrev of_object : ℕ → List InstancePath → List InstancePath
of_object o ps = filter (λ p. eqb p.object o) ps

others : ℕ → List InstancePath → List InstancePath
others o ps = filter (λ p. not (eqb p.object o)) ps

both_parts : (o : ℕ) (ps : List InstancePath) → length (of_object o ps) + length (others o ps) ≡ length ps
unfolding others
both_parts o [] = refl
both_parts o (p ∷ ps) =
    let rest = both_parts o ps in
    elim (eqb p.object o) as (λ b. length (cond b (p ∷ of_object o ps) (of_object o ps)) + length
    (cond (not b) (p ∷ others o ps) (others o ps)) ≡ suc (length ps)) [
      | true ↦ omega (arith, rest)
      | false ↦ omega (arith, rest)
    ]

fewer : (o q : ℕ) (ps : List InstancePath) → length (of_object q (others o ps)) ≤ length (of_object q ps)
unfolding others
fewer o q [] = omega arith
fewer o q (p ∷ ps) =
    let rest = fewer o q ps in
    elim (eqb p.object o) as (λ b. length (of_object q (cond (not b) (p ∷ others o ps) (others o ps))) ≤ length
    (cond (eqb p.object q) (p ∷ of_object q ps) (of_object q ps))) [
      | true ↦ elim (eqb p.object q) as (λ d. length (of_object q (others o ps)) ≤ length
          (cond d (p ∷ of_object q ps) (of_object q ps))) [ true ↦ omega (arith, rest) | false ↦ rest ]
      | false ↦ elim (eqb p.object q) as (λ d. length
          (cond d (p ∷ of_object q (others o ps)) (of_object q (others o ps))) ≤ length
          (cond d (p ∷ of_object q ps) (of_object q ps))) [ true ↦ omega (arith, rest) | false ↦ rest ]
    ]

turn : (n m : ℕ) → eqb n m ≡ eqb m n
turn n m = grind (arith, nat_tests)

known_others : (o : ObjectDef) (os : List ObjectDef) (ps : List InstancePath)
    → AllByRecursion (λ p. is_some (object_of (o ∷ os) p.object) ≡ true) ps
    → AllByRecursion (λ p. is_some (object_of os p.object) ≡ true) (others o.id ps)
unfolding others
known_others o os [] h = tt
known_others o os (p ∷ ps) h =
    elim (eqb p.object o.id) as (λ b. eqb p.object o.id ≡ b
    → AllByRecursion (λ p. is_some (object_of os p.object) ≡ true)
    (cond (not b) (p ∷ others o.id ps) (others o.id ps))) [
      | true ↦ λ e. known_others o os ps h.1
      | false ↦ λ e. (
        sym (ap (λ b. is_some (cond b (Some o) (object_of os p.object))) (turn o.id p.object ∙ e)) ∙ h.0,
        known_others o os ps h.1,
      )
    ] refl

none_known : (ps : List InstancePath) → AllByRecursion (λ p. is_some (object_of [] p.object) ≡ true) ps → length ps ≤ 0
none_known [] h = omega arith
none_known (p ∷ ps) h = let e : false ≡ true = h.0 in absurd cc

at_most_64 : (c : List ObjectDef) (ps : List InstancePath)
    → AllByRecursion (λ p. is_some (object_of c p.object) ≡ true) ps → ((o : ℕ) → length (of_object o ps) ≤ 64)
    → length ps ≤ 64 * length c
at_most_64 [] ps known few = omega (arith, none_known ps known)
at_most_64 (o ∷ os) ps known few =
    let rest = at_most_64 os (others o.id ps) (known_others o os ps known)
    (λ q. le_through (fewer o.id q ps) (few q)) in
    omega (arith, rest, both_parts o.id ps, few o.id)
  where
    le_through : {a b c : ℕ} → a ≤ b → b ≤ c → a ≤ c
    le_through h k = omega (arith, h, k)

all_keys : (c : List ObjectDef) (es : List Entry) → AllByRecursion (IsPlace c) es
    → AllByRecursion (λ p. is_some (object_of c p.object) ≡ true) (map (λ e. e.0) es)
all_keys c [] h = tt
all_keys c (e ∷ es) h = (h.0.2, all_keys c es h.1)

keys_few : (c : List ObjectDef) (es : List Entry) → HasInstances c es → length c ≤ 16
    → length (map (λ (e : Entry). e.0) es) < 65536
keys_few c es h small =
    let all = at_most_64 c (map (λ e. e.0) es) (all_keys c es h.each)
    (λ o. subst (λ n. n ≤ 64) (length-map (of_object o (map (λ e. e.0) es)) (λ p. p.instance)) (h.few o)) in
    omega (arith, all, small)

-- ---- their bytes

abbrev as_entries : List InstancePath → List Entry
as_entries ps = map (λ p. (p, tt)) ps

places_ascend : (c : Template) → Ascends instance_cmp (λ p. p) (instances_in c)
places_ascend c =
    keys_ascend instance_cmp (finite.entries c.store.instances) (map_ascends instance_total c.store.instances)

numbered : ℕ → List InstancePath → List ℕ
numbered o ps = map (λ p. p.instance) (filter (λ p. eqb p.object o) ps)

numbered_joins : (o : ℕ) (xs ys : List InstancePath) → numbered o (xs ++ ys) ≡ numbered o xs ++ numbered o ys
unfolding numbered
numbered_joins o xs ys =
    ap (map (λ p. p.instance)) (filter-append (λ p. eqb p.object o) xs ys)
    ∙ map-append (λ p. p.instance) (filter (λ p. eqb p.object o) xs) (filter (λ p. eqb p.object o) ys)

-- the place itself is one of its object's
itself : (p : InstancePath) → length (numbered p.object (p ∷ [])) ≡ 1
unfolding numbered
itself p = ap (λ b. length (map (λ (q : InstancePath). q.instance) (cond b (p ∷ []) []))) (same p.object)
  where
    same : (n : ℕ) → eqb n n ≡ true
    same n = grind (arith, nat_tests)

-- the entries of a class that has the places at the front
front_entries : (front back : List InstancePath) → Ascends instance_cmp (λ p. p) (front ++ back)
    → finite.entries (finite.from_sorted {R = instance_cmp} (as_entries front)) ≡ as_entries front
front_entries front back h =
    finite.entries-from_sorted instance_cmp (as_entries front)
    (is_true _ (is_in_order instance_cmp (λ p. (p, tt)) front (front_ascends instance_cmp (λ p. p) front back h)))

low_entries : (p : InstancePath) (front : List InstancePath) → list_all (λ q. is_lt (instance_cmp q p)) front ≡ true
    → list_all (λ (e : Entry). is_lt (instance_cmp e.0 p)) (as_entries front) ≡ true
low_entries p [] h = refl
low_entries p (q ∷ front) h =
    let both = and_parts (is_lt (instance_cmp q p)) _ h in
    and_from (is_lt (instance_cmp q p)) _ both.0 (low_entries p front both.1)

instance_free : (k : Template) (front : List InstancePath) (p : InstancePath) (back : List InstancePath)
    → Ascends instance_cmp (λ q. q) (front ++ p ∷ back) → may_stand p ≡ true
    → is_some (object_of k.catalog p.object) ≡ true
    → length (numbered p.object (front ++ p ∷ back)) ≤ 64 → instance_fault (with_instances k front) p ≡ None
unfolding numbered
instance_free k front p back h may known few =
    let es = front_entries front (p ∷ back) h in
    let low = front_below instance_cmp (λ q. q) front p back h in
    let room = taken_before (numbered p.object) (numbered_joins p.object) (front ++ p ∷ back) front p back refl in
    let same : length (numbers_of p.object (finite.entries (finite.from_sorted {R = instance_cmp} (as_entries front))))
    ≡ length (numbered p.object front)
    = ap (λ t. length (numbers_of p.object t)) es
    ∙ ap (λ t. length (map (λ (q : InstancePath). q.instance) (filter (λ q. eqb q.object p.object) t)))
    (map_units front) in
    no_four _ _ _ _ _ _ _ _ (not_true (may_stand p) may) (not_true (is_some (object_of k.catalog p.object)) known)
    (ap is_some (finite.get-entries (finite.from_sorted {R = instance_cmp} (as_entries front)) p
    ∙ ap (find instance_cmp p) es ∙ none_behind instance_total p _ (low_entries p front low)))
    (nat_le_below _ 64 (omega (arith, same, room, itself p, few)))

all_places : (c : List ObjectDef) (es : List Entry) → AllByRecursion (IsPlace c) es
    → AllByRecursion (λ p. IsPlace c (p, tt)) (map (λ e. e.0) es)
all_places c [] h = tt
all_places c (e ∷ es) h = (h.0, all_places c es h.1)

instance_good : (k : Template) (front : List InstancePath) (p : InstancePath) (back : List InstancePath)
    → Ascends instance_cmp (λ q. q) (front ++ p ∷ back)
    → AllByRecursion (λ q. IsPlace k.catalog (q, tt)) (front ++ p ∷ back)
    → length (numbered p.object (front ++ p ∷ back)) ≤ 64 → (layout.instance k front).Good p
unfolding layout.instance
instance_good k front p back h all few =
    let is = each_here (λ q. IsPlace k.catalog (q, tt)) front p back all in (
      place_good p is.0 (number_small p is.1),
      and_from _ _ (front_below instance_cmp (λ q. q) front p back h)
          (taken_none _ (instance_free k front p back h is.1 is.2 few)),
    )
  where
    low : (n : ℕ) → nat_le n 65534 ≡ true → n < 65536
    low n h = grind (arith, nat_tests)

    number_small : (q : InstancePath) → may_stand q ≡ true → q.instance < 65536
    number_small q may = low q.instance (and_parts _ _ (and_parts (not (eqb q.object 0)) _ may).1).0

pub instances_good : (c k : Template) → IsBuilt c → length c.catalog ≤ 16 → k.catalog ≡ c.catalog
    → (instances k).Good (instances_in c)
unfolding instances numbered
instances_good c k built small same =
    let h = has_instances c built in
    let ps = instances_in c in
    let all = subst (λ (t : List ObjectDef). AllByRecursion (λ p. IsPlace t (p, tt)) ps) (sym same)
    (all_places c.catalog (finite.entries c.store.instances) h.each) in (
      number_good w16 (length ps) (keys_few c.catalog (finite.entries c.store.instances) h small),
      each_good (layout.instance k) ps [] ps refl (λ front p back e.
          instance_good k front p back (subst (Ascends instance_cmp (λ q. q)) e (places_ascend c))
          (subst (AllByRecursion (λ q. IsPlace k.catalog (q, tt))) e all)
          (subst (λ (t : List InstancePath). length (numbered p.object t) ≤ 64) e (h.few p.object))),
    )

pub few_instances : (c : Template) → IsBuilt c → length c.catalog ≤ 16 → length (instances_in c) < 65536
few_instances c built small = keys_few c.catalog (finite.entries c.store.instances) (has_instances c built) small
