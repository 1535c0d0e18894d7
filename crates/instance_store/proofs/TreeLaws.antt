-- The values of a resource and of an instance, as finite maps: what they have, their entries, and what changes them.
use Rattle.std.proofs.Common.{◌≡◌, ℕ, suc, ◌<◌, ◌≤◌, ◌+◌, Bool, true, false, cond, not, ◌&&◌, eqb, List, []}
use Rattle.std.proofs.Common.{◌∷◌, ◌++◌, map as map_list, length, drop, Option, None, Some, is_some, refl, sym}
use Rattle.std.proofs.Common.{ap, subst, ◌∙◌, arith, inl, inr, Ordering}
use Rattle.std.proofs.Common.{length-append, drop-cons, drop_of_length-le, Bor}
use Rattle.std.proofs.Math.Dec.{T}
use Rattle.std.specs.List.{filter, filter_map, dedup, dedup_from, slice_get, AllByRecursion}
use Rattle.std.specs.Ordering.{nat_cmp, is_eq, is_lt, eq_by_cmp, ordering_then}
use Rattle.std.specs.declared.cmp.Ordering.TheVariants.{Less, Equal, Greater}
use Rattle.std.specs.Cmp.{IsTotalOrder, nat_cmp_total, tied_itself}
use Rattle.std.specs.Cmp.Lexicographic.{options_total}
use Rattle.std.specs.FinMap as map
use Rattle.std.specs.FinMap.{find, is_sorted}
use Rattle.std.specs.FinMap.Entries.{below_all}
use Rattle.std.proofs.lemmas.Bool.{cases_eq}
use Rattle.std.proofs.lemmas.Bool.Decides.{nat_tests}
use Rattle.std.proofs.lemmas.Cmp.{on_total, then_total}
use Rattle.std.proofs.lemmas.List.{length-map, map-append}
use Rattle.std.proofs.lemmas.Option.{slice_get_within, get_or_from_slice_get, same_Some}
use Rattle.std.proofs.lemmas.Map.Lookups.{CmpEqualImpliesEq, exact_pairs, exact_unsigned}
use Rattle.lemmas.proofs.Tests.{T_both, T_first, T_second}
use Rattle.lemmas.proofs.Numbers.{eqb_itself, same_from_tie}
use Rattle.lwm2m_values.specs.declared.value.Value.{Value}
use Rattle.object_defs.specs.declared.path.FullPath.{FullPath}
use Rattle.object_defs.specs.declared.path.InstancePath.{InstancePath}
use Rattle.object_defs.specs.declared.path.ResourcePath.{ResourcePath}
use Rattle.object_defs.specs.Path.{path_cmp, instance_cmp}
use Rattle.object_defs.proofs.PathOrder.{path_total, path_exact, instance_total, instance_exact, exact_options}
use Rattle.instance_store.specs.Listing.{shown_pairs}
use Rattle.instance_store.specs.Nested.{block, flat_entries}
use Rattle.instance_store.specs.Table.{TableOf}
use Rattle.instance_store.specs.Tree.{part_cmp, ResourceValues, single_entries, part_entries, resource_values, at_part}
use Rattle.instance_store.specs.Tree.{value_cmp, instance_values, HoldValues, place, path_below}
use Rattle.instance_store.specs.Tree.{path_in}
use Rattle.instance_store.proofs.Nested.{IsNesting, inside, held_in, get-joined_map_up, entries-joined_map}
use Rattle.instance_store.proofs.Nested.{entries-sorted, filter-joined_map, joined_map-insert, joined_map-removed}

-- ---- the orders

pub part_total : IsTotalOrder part_cmp
part_total = options_total nat_cmp_total

pub part_exact : CmpEqualImpliesEq part_cmp
part_exact = exact_options nat_cmp exact_unsigned

pub value_total : IsTotalOrder value_cmp
value_total = then_total (on_total (λ k. k.0) nat_cmp_total) (on_total (λ k. k.1) part_total)

pub value_exact : CmpEqualImpliesEq value_cmp
value_exact = exact_pairs nat_cmp part_cmp exact_unsigned part_exact

then_then : (a b c : Ordering) → ordering_then a (ordering_then b c) ≡ ordering_then (ordering_then a b) c
then_then Less b c = refl
then_then Equal b c = refl
then_then Greater b c = refl

-- the parts of a resource below the resources of an instance
pub part_nesting : IsNesting nat_cmp part_cmp value_cmp at_part (λ k. k.0) (λ k. k.1)
part_nesting = record {
  outer_total = nat_cmp_total;
  outer_exact = exact_unsigned;
  inner_total = part_total;
  inner_exact = part_exact;
  total = value_total;
  exact = value_exact;
  back = λ p. refl;
  outer_is = λ n k. refl;
  inner_is = λ n k. refl;
  order = λ p q. refl;
}

-- the instances of an object below the objects
pub instance_nesting : IsNesting nat_cmp nat_cmp instance_cmp place (λ p. p.object) (λ p. p.instance)
instance_nesting = record {
  outer_total = nat_cmp_total;
  outer_exact = exact_unsigned;
  inner_total = nat_cmp_total;
  inner_exact = exact_unsigned;
  total = instance_total;
  exact = instance_exact;
  back = λ p. refl;
  outer_is = λ n k. refl;
  inner_is = λ n k. refl;
  order = λ p q. refl;
}

-- the values of an instance below the instances
pub value_nesting : IsNesting instance_cmp value_cmp path_cmp path_below (λ p. place p.object p.instance)
    (λ p. (p.resource, p.part))
value_nesting = record {
  outer_total = instance_total;
  outer_exact = instance_exact;
  inner_total = value_total;
  inner_exact = value_exact;
  total = path_total;
  exact = path_exact;
  back = λ p. refl;
  outer_is = λ n k. refl;
  inner_is = λ n k. refl;
  order = λ p q. then_then (nat_cmp p.object q.object) (nat_cmp p.instance q.instance) _;
}

-- ---- the values of a resource

find_part : (es : List (ℕ × Value)) (n : ℕ) → find part_cmp (Some n) (part_entries es) ≡ find nat_cmp n es
find_part [] n = refl
find_part (e ∷ es) n = ap (cond (eq_by_cmp nat_cmp n e.0) (Some e.1)) (find_part es n)

find_single : (es : List (ℕ × Value)) → find part_cmp None (part_entries es) ≡ None
find_single [] = refl
find_single (e ∷ es) = find_single es

pub get-single : (s : Option Value) (t : TableOf Value) → map.get (resource_values s t) None ≡ s
get-single None t = map.get-from_entries part_total (part_entries (map.entries t)) None ∙ find_single (map.entries t)
get-single (Some v) t =
    map.get-from_entries part_total (single_entries (Some v) ++ part_entries (map.entries t)) None

pub get-part : (s : Option Value) (t : TableOf Value) (n : ℕ) → map.get (resource_values s t) (Some n) ≡ map.get t n
get-part None t n =
    map.get-from_entries part_total (part_entries (map.entries t)) (Some n)
    ∙ find_part (map.entries t) n
    ∙ sym (map.get-entries t n)
get-part (Some v) t n =
    map.get-from_entries part_total (single_entries (Some v) ++ part_entries (map.entries t)) (Some n)
    ∙ find_part (map.entries t) n
    ∙ sym (map.get-entries t n)

below_part : (n : ℕ) (es : List (ℕ × Value)) → T (below_all nat_cmp n es)
    → T (below_all part_cmp (Some n) (part_entries es))
below_part n [] h = tt
below_part n (e ∷ es) h = T_both _ _ (T_first _ _ h) (below_part n es (T_second _ _ h))

sorted_parts : (es : List (ℕ × Value)) → T (is_sorted nat_cmp es) → T (is_sorted part_cmp (part_entries es))
sorted_parts [] h = tt
sorted_parts (e ∷ es) h = T_both _ _ (below_part e.0 es (T_first _ _ h)) (sorted_parts es (T_second _ _ h))

below_single : (es : List (ℕ × Value)) → T (below_all part_cmp None (part_entries es))
below_single [] = tt
below_single (e ∷ es) = below_single es

sorted_resource : (s : Option Value) (es : List (ℕ × Value)) → T (is_sorted nat_cmp es)
    → T (is_sorted part_cmp (single_entries s ++ part_entries es))
sorted_resource None es h = sorted_parts es h
sorted_resource (Some v) es h = T_both _ _ (below_single es) (sorted_parts es h)

pub entries-resource : (s : Option Value) (t : TableOf Value)
    → map.entries (resource_values s t) ≡ single_entries s ++ part_entries (map.entries t)
entries-resource s t =
    entries-sorted part_total part_exact (single_entries s ++ part_entries (map.entries t))
    (sorted_resource s (map.entries t) (map.entries_sorted t))

pub len-resource : (s : Option Value) (t : TableOf Value)
    → map.len (resource_values s t) ≡ length (single_entries s) + map.len t
len-resource s t =
    map.len-entries (resource_values s t)
    ∙ ap length (entries-resource s t)
    ∙ length-append (single_entries s) (part_entries (map.entries t))
    ∙ ap (λ n. length (single_entries s) + n) (length-map (map.entries t) _ ∙ sym (map.len-entries t))

numbers_of : (es : List (ℕ × Value)) → filter_map (λ e. e.0) (part_entries es) ≡ map_list (λ e. e.0) es
numbers_of [] = refl
numbers_of (e ∷ es) = ap (λ t. e.0 ∷ t) (numbers_of es)

numbers_after : (s : Option Value) (es : List (ℕ × Value))
    → filter_map (λ e. e.0) (single_entries s ++ part_entries es) ≡ map_list (λ e. e.0) es
numbers_after None es = numbers_of es
numbers_after (Some v) es = numbers_of es

pub parts-resource : (s : Option Value) (t : TableOf Value)
    → filter_map (λ e. e.0) (map.entries (resource_values s t)) ≡ map.keys t
parts-resource s t = ap (filter_map (λ e. e.0)) (entries-resource s t) ∙ numbers_after s (map.entries t)

pub resource-single : (s : Option Value) (t : TableOf Value) (v : Value)
    → resource_values (Some v) t ≡ map.insert (resource_values s t) None v
resource-single s t v = map.same_map part_total part_exact _ _ at
  where
    at : (q : Option ℕ) → map.get (resource_values (Some v) t) q ≡ map.get (map.insert (resource_values s t) None v) q
    at None = get-single (Some v) t ∙ sym (map.get-insert part_total (resource_values s t) None v None)
    at (Some n) =
        get-part (Some v) t n
        ∙ sym (map.get-insert part_total (resource_values s t) None v (Some n) ∙ get-part s t n)

pub resource-part : (s : Option Value) (t : TableOf Value) (n : ℕ) (v : Value)
    → resource_values s (map.insert t n v) ≡ map.insert (resource_values s t) (Some n) v
resource-part s t n v = map.same_map part_total part_exact _ _ at
  where
    at : (q : Option ℕ)
        → map.get (resource_values s (map.insert t n v)) q ≡ map.get (map.insert (resource_values s t) (Some n) v) q
    at None =
        get-single s (map.insert t n v)
        ∙ sym (map.get-insert part_total (resource_values s t) (Some n) v None ∙ get-single s t)
    at (Some m) =
        get-part s (map.insert t n v) m
        ∙ map.get-insert nat_cmp_total t n v m
        ∙ sym (map.get-insert part_total (resource_values s t) (Some n) v (Some m)
        ∙ ap (cond (eq_by_cmp nat_cmp m n) (Some v)) (get-part s t m))

pub resource-empty : resource_values None map.empty ≡ map.empty
resource-empty = map.same_map part_total part_exact _ _ at
  where
    at : (q : Option ℕ) → map.get (resource_values None map.empty) q ≡ map.get (map.empty {R = part_cmp}) q
    at None = get-single None map.empty ∙ sym (map.get-empty part_cmp None)
    at (Some n) = get-part None map.empty n ∙ map.get-empty nat_cmp n ∙ sym (map.get-empty part_cmp (Some n))

-- ---- no resource is without a value

some_of_none : {A : Type 0} {P : Type 0} (x : A) → None ≡ Some x → P
some_of_none x e = absurd (subst T (ap is_some (sym e)) tt)

-- a map that has a value at a key is not empty
pub not_empty : (m : ResourceValues) (k : Option ℕ) (v : Value) → map.get m k ≡ Some v → 0 < map.len m
not_empty m k v h =
    elim (cases_eq (map.len m) 0) [
      | inl e ↦
          some_of_none v (sym (map.get-empty part_cmp k) ∙ ap (λ n. map.get n k) (sym (map.empty_of_len m e)) ∙ h)
      | inr n ↦ omega (arith, n)
    ]

pub not_empty-insert : (m : ResourceValues) (k : Option ℕ) (v : Value) → 0 < map.len (map.insert m k v)
not_empty-insert m k v =
    not_empty (map.insert m k v) k v (map.get-insert part_total m k v k
    ∙ ap (λ b. cond b (Some v) (map.get m k)) (ap is_eq (tied_itself part_total k)))

pub HoldValues-empty : HoldValues map.empty
HoldValues-empty n values h = some_of_none values (sym (map.get-empty nat_cmp n) ∙ h)

put_here : (b : Bool) (m values : ResourceValues) (o : Option ResourceValues) → 0 < map.len m
    → (o ≡ Some values → 0 < map.len values) → cond b (Some m) o ≡ Some values → 0 < map.len values
put_here true m values o held rest e = subst (λ (x : ResourceValues). 0 < map.len x) (same_Some m values e) held
put_here false m values o held rest e = rest e

pub HoldValues-insert : (t : TableOf ResourceValues) (n : ℕ) (m : ResourceValues) → HoldValues t → 0 < map.len m
    → HoldValues (map.insert t n m)
HoldValues-insert t n m h held q values e =
    put_here (eq_by_cmp nat_cmp q n) m values (map.get t q) held (h q values)
    (sym (map.get-insert nat_cmp_total t n m q) ∙ e)

out_here : (b : Bool) (values : ResourceValues) (o : Option ResourceValues) → (o ≡ Some values → 0 < map.len values)
    → cond b None o ≡ Some values → 0 < map.len values
out_here true values o rest e = some_of_none values e
out_here false values o rest e = rest e

pub HoldValues-remove : (t : TableOf ResourceValues) (n : ℕ) → HoldValues t → HoldValues (map.remove t n)
HoldValues-remove t n h q values e =
    out_here (eq_by_cmp nat_cmp q n) values (map.get t q) (h q values) (sym (map.get-remove nat_cmp_total t n q) ∙ e)

-- ---- the values of an instance

pub instance-empty : instance_values map.empty ≡ map.empty
instance-empty = map.same_map value_total value_exact _ _ (λ q.
    get-joined_map_up part_nesting map.empty q.0 q.1
    ∙ ap (λ (o : Option ResourceValues). inside o q.1) (map.get-empty {X = ResourceValues} nat_cmp q.0)
    ∙ sym (map.get-empty value_cmp q))

-- the values of one resource
pub resource_in : (t : TableOf ResourceValues) (r : ℕ)
    → filter (λ e. eqb e.0.0 r) (map.entries (instance_values t)) ≡ held_in at_part r (λ k. true) (map.get t r)
resource_in t r =
    filter-joined_map part_nesting r (λ k. true) (λ k. eqb k.0 r) (λ q. tied q.0) t
  where
    tied : (n : ℕ) → eqb n r ≡ (eq_by_cmp nat_cmp n r && true)
    tied n = grind (arith, nat_tests)

pub all_kept : {X : Type 0} (xs : List X) → filter (λ x. true) xs ≡ xs
all_kept [] = refl
all_kept (x ∷ xs) = ap (λ t. x ∷ t) (all_kept xs)

pub resource_some : (t : TableOf ResourceValues) (r : ℕ) (m : ResourceValues) → map.get t r ≡ Some m
    → filter (λ e. eqb e.0.0 r) (map.entries (instance_values t)) ≡ block at_part r (map.entries m)
resource_some t r m h =
    resource_in t r
    ∙ ap (held_in at_part r (λ k. true)) h
    ∙ ap (block at_part r) (all_kept (map.entries m))

pub resource_none : (t : TableOf ResourceValues) (r : ℕ) → map.get t r ≡ None
    → filter (λ e. eqb e.0.0 r) (map.entries (instance_values t)) ≡ []
resource_none t r h = resource_in t r ∙ ap (held_in at_part r (λ k. true)) h

pub length_some : (t : TableOf ResourceValues) (r : ℕ) (m : ResourceValues) → map.get t r ≡ Some m
    → length (filter (λ e. eqb e.0.0 r) (map.entries (instance_values t))) ≡ map.len m
length_some t r m h =
    ap length (resource_some t r m h) ∙ length-map (map.entries m) _ ∙ sym (map.len-entries m)

part_numbers : (r : ℕ) (es : List (Option ℕ × Value))
    → filter_map (λ e. e.0.1) (block at_part r es) ≡ filter_map (λ e. e.0) es
part_numbers r [] = refl
part_numbers r ((None, v) ∷ es) = part_numbers r es
part_numbers r ((Some n, v) ∷ es) = ap (λ t. n ∷ t) (part_numbers r es)

pub parts_some : (t : TableOf ResourceValues) (r : ℕ) (m : ResourceValues) → map.get t r ≡ Some m
    → filter_map (λ e. e.0.1) (filter (λ e. eqb e.0.0 r) (map.entries (instance_values t)))
    ≡ filter_map (λ e. e.0) (map.entries m)
parts_some t r m h = ap (filter_map (λ e. e.0.1)) (resource_some t r m h) ∙ part_numbers r (map.entries m)

-- ---- the numbers of the resources

eqb_less : (n m : ℕ) → T (is_lt (nat_cmp n m)) → eqb n m ≡ false
eqb_less n m h = grind (arith, nat_tests, h)

copies : (n : ℕ) (xs : List (Option ℕ × Value)) (ys : List ℕ)
    → dedup_from eqb n (map_list (λ e. e.0.0) (block at_part n xs) ++ ys) ≡ dedup_from eqb n ys
copies n [] ys = refl
copies n (x ∷ xs) ys =
    let rest = map_list (λ e. e.0.0) (block at_part n xs) ++ ys in
    ap (λ b. cond b (dedup_from eqb n rest) (n ∷ dedup_from eqb n rest)) (eqb_itself n) ∙ copies n xs ys

after_lower : (k n : ℕ) (xs : List (Option ℕ × Value)) (ys : List ℕ) → 0 < length xs → eqb n k ≡ false
    → dedup_from eqb k (map_list (λ e. e.0.0) (block at_part n xs) ++ ys) ≡ k ∷ dedup_from eqb n ys
after_lower k n [] ys h e = absurd (omega (arith, h))
after_lower k n (x ∷ xs) ys h e =
    let rest = map_list (λ e. e.0.0) (block at_part n xs) ++ ys in
    ap (λ b. cond b (dedup_from eqb k rest) (k ∷ dedup_from eqb n rest)) e ∙ ap (λ t. k ∷ t) (copies n xs ys)

from_start : (n : ℕ) (xs : List (Option ℕ × Value)) (ys : List ℕ) → 0 < length xs
    → dedup eqb (map_list (λ e. e.0.0) (block at_part n xs) ++ ys) ≡ dedup_from eqb n ys
from_start n [] ys h = absurd (omega (arith, h))
from_start n (x ∷ xs) ys h = copies n xs ys

abbrev resource_numbers : List (ℕ × ResourceValues) → List ℕ
resource_numbers es = map_list (λ e. e.0.0) (flat_entries at_part es)

abbrev EachHolds : List (ℕ × ResourceValues) → Type 0
EachHolds es = AllByRecursion (λ e. 0 < length (map.entries e.1)) es

numbers_next : (e : ℕ × ResourceValues) (es : List (ℕ × ResourceValues))
    → resource_numbers (e ∷ es) ≡ map_list (λ e. e.0.0) (block at_part e.0 (map.entries e.1)) ++ resource_numbers es
numbers_next e es = map-append (λ e. e.0.0) (block at_part e.0 (map.entries e.1)) (flat_entries at_part es)

apart_numbers : (n m : ℕ) → T (is_lt (nat_cmp n m)) → eqb m n ≡ false
apart_numbers n m h = flip (eqb m n) (eqb n m) (turned n m) (eqb_less n m h)
  where
    turned : (n m : ℕ) → eqb m n ≡ eqb n m
    turned n m = grind (arith, nat_tests)

    flip : (a b : Bool) → a ≡ b → b ≡ false → a ≡ false
    flip a b e h = e ∙ h

once_after : (n : ℕ) (es : List (ℕ × ResourceValues)) → T (below_all nat_cmp n es) → T (is_sorted nat_cmp es)
    → EachHolds es → dedup_from eqb n (resource_numbers es) ≡ n ∷ map_list (λ e. e.0) es
once_after n [] h s held = refl
once_after n (e ∷ es) h s held =
    ap (dedup_from eqb n) (numbers_next e es)
    ∙ after_lower n e.0 (map.entries e.1) (resource_numbers es) held.0 (apart_numbers n e.0 (T_first _ _ h))
    ∙ ap (λ t. n ∷ t) (once_after e.0 es (T_first _ _ s) (T_second _ _ s) held.1)

each_once : (es : List (ℕ × ResourceValues)) → T (is_sorted nat_cmp es) → EachHolds es
    → dedup eqb (resource_numbers es) ≡ map_list (λ e. e.0) es
each_once [] s held = refl
each_once (e ∷ es) s held =
    ap (dedup eqb) (numbers_next e es)
    ∙ from_start e.0 (map.entries e.1) (resource_numbers es) held.0
    ∙ once_after e.0 es (T_first _ _ s) (T_second _ _ s) held.1

less_is : (o : Ordering) → T (is_lt o) → is_eq o ≡ false
less_is Less p = refl
less_is Equal p = absurd p
less_is Greater p = absurd p

none_below : (n : ℕ) (es : List (ℕ × ResourceValues)) → T (below_all nat_cmp n es) → find nat_cmp n es ≡ None
none_below n [] h = refl
none_below n (e ∷ es) h =
    ap (λ b. cond b (Some e.1) (find nat_cmp n es)) (less_is _ (T_first _ _ h)) ∙ none_below n es (T_second _ _ h)

passed : (b : Bool) (e : ℕ × ResourceValues) (es : List (ℕ × ResourceValues)) (q : ℕ) (m : ResourceValues)
    → eq_by_cmp nat_cmp q e.0 ≡ b → T (below_all nat_cmp e.0 es) → find nat_cmp q es ≡ Some m
    → cond b (Some e.1) (find nat_cmp q es) ≡ Some m
passed true e es q m t h f =
    some_of_none m (sym (none_below e.0 es h) ∙ ap (λ k. find nat_cmp k es) (sym (same_from_tie q e.0 t)) ∙ f)
passed false e es q m t h f = f

each_holds : (es : List (ℕ × ResourceValues)) → T (is_sorted nat_cmp es)
    → ((n : ℕ) (m : ResourceValues) → find nat_cmp n es ≡ Some m → 0 < map.len m) → EachHolds es
each_holds [] s h = tt
each_holds (e ∷ es) s h = (
  subst (λ n. 0 < n) (map.len-entries e.1) (h e.0 e.1 (ap (λ b. cond b (Some e.1) (find nat_cmp e.0 es))
      (ap is_eq (tied_itself nat_cmp_total e.0)))),
  each_holds es (T_second _ _ s)
      (λ n m f. h n m (passed (eq_by_cmp nat_cmp n e.0) e es n m refl (T_first _ _ s) f)),
)

-- the numbers of the resources, each once
pub numbers-instance : (t : TableOf ResourceValues) → HoldValues t
    → dedup eqb (map_list (λ e. e.0.0) (map.entries (instance_values t))) ≡ map.keys t
numbers-instance t h =
    ap (λ es. dedup eqb (map_list (λ e. e.0.0) es)) (entries-joined_map part_nesting t)
    ∙ each_once (map.entries t) (map.entries_sorted t) (each_holds (map.entries t) (map.entries_sorted t)
    (λ n m f. h n m (map.get-entries t n ∙ f)))

-- ---- what an instance has, and what changes it

pub get_some : (t : TableOf ResourceValues) (r : ℕ) (p : Option ℕ) (m : ResourceValues) → map.get t r ≡ Some m
    → map.get (instance_values t) (at_part r p) ≡ map.get m p
get_some t r p m h = get-joined_map_up part_nesting t r p ∙ ap (λ (o : Option ResourceValues). inside o p) h

pub get_none : (t : TableOf ResourceValues) (r : ℕ) (p : Option ℕ) → map.get t r ≡ None
    → map.get (instance_values t) (at_part r p) ≡ None
get_none t r p h = get-joined_map_up part_nesting t r p ∙ ap (λ (o : Option ResourceValues). inside o p) h

-- a value more in a resource that there is, and in a new one
pub put_some : (t : TableOf ResourceValues) (r : ℕ) (p : Option ℕ) (v : Value) (m : ResourceValues) → map.get t r
    ≡ Some m
    → instance_values (map.insert t r (map.insert m p v)) ≡ map.insert (instance_values t) (at_part r p) v
put_some t r p v m h =
    joined_map-insert part_nesting t r m p v (λ j. ap (λ (o : Option ResourceValues). inside o j) (sym h))

pub put_none : (t : TableOf ResourceValues) (r : ℕ) (p : Option ℕ) (v : Value) → map.get t r ≡ None
    → instance_values (map.insert t r (map.insert map.empty p v)) ≡ map.insert (instance_values t) (at_part r p) v
put_none t r p v h =
    joined_map-insert part_nesting t r map.empty p v
    (λ j. map.get-empty {X = Value} part_cmp j ∙ ap (λ (o : Option ResourceValues). inside o j) (sym h))

put_back : {A : Type 0} (b : Bool) (x : A) (o : Option A) → (b ≡ true → o ≡ Some x) → cond b (Some x) o ≡ o
put_back true x o h = sym (h refl)
put_back false x o h = refl

-- what is there, put again
pub insert_same : {X : Type 0} (t : TableOf X) (n : ℕ) (x : X) → map.get t n ≡ Some x → map.insert t n x ≡ t
insert_same t n x h = map.same_map nat_cmp_total exact_unsigned _ _ (λ q.
    map.get-insert nat_cmp_total t n x q
    ∙ put_back (eq_by_cmp nat_cmp q n) x (map.get t q) (λ e. ap (map.get t) (same_from_tie q n e) ∙ h))

pub remove_resource : (t : TableOf ResourceValues) (r : ℕ)
    → instance_values (map.remove t r) ≡ map.retain_keys (instance_values t) (λ k. not (eqb k.0 r))
remove_resource t r = joined_map-removed part_nesting t r (λ k. not (eqb k.0 r)) (λ q. tied q.0)
  where
    tied : (n : ℕ) → not (eqb n r) ≡ not (eq_by_cmp nat_cmp n r)
    tied n = grind (arith, nat_tests)

-- ---- one resource after another

pub next_of : {X : Type 0} (xs : List X) (i : ℕ) (x : X) → slice_get xs i ≡ Some x → drop i xs ≡ x ∷ drop (i + 1) xs
next_of xs i x h =
    drop-cons xs i x (slice_get_within xs i x h)
    ∙ ap (λ y. y ∷ drop (suc i) xs) (get_or_from_slice_get xs i x x h)
    ∙ ap (λ j. x ∷ drop j xs) (suc_add i)
  where
    suc_add : (i : ℕ) → suc i ≡ i + 1
    suc_add i = omega arith

pub len-instance : (t : TableOf ResourceValues)
    → map.len (instance_values t) ≡ length (flat_entries at_part (map.entries t))
len-instance t = map.len-entries (instance_values t) ∙ ap length (entries-joined_map part_nesting t)

pub length_next : (es : List (ℕ × ResourceValues)) (i : ℕ) (e : ℕ × ResourceValues) → slice_get es i ≡ Some e
    → length (flat_entries at_part (drop i es)) ≡ map.len e.1 + length (flat_entries at_part (drop (i + 1) es))
length_next es i e h =
    ap (λ t. length (flat_entries at_part t)) (next_of es i e h)
    ∙ length-append (block at_part e.0 (map.entries e.1)) (flat_entries at_part (drop (i + 1) es))
    ∙ ap (λ n. n + length (flat_entries at_part (drop (i + 1) es)))
    (length-map (map.entries e.1) _ ∙ sym (map.len-entries e.1))

-- the full paths of a resource's values
pub paths_of : (i : InstancePath) (r : ℕ) (es : List (Option ℕ × Value))
    → block path_below i (block at_part r es)
    ≡ map_list (λ e. (path_in (record { object = i.object; instance = i.instance; resource = r }) e.0, e.1)) es
paths_of i r [] = refl
paths_of i r (e ∷ es) = ap (λ t. (path_below i (at_part r e.0), e.1) ∷ t) (paths_of i r es)

pub paths_next : (i : InstancePath) (es : List (ℕ × ResourceValues)) (n : ℕ) (e : ℕ × ResourceValues)
    → slice_get es n ≡ Some e
    → block path_below i (flat_entries at_part (drop n es))
    ≡ map_list (λ f. (path_in (record { object = i.object; instance = i.instance; resource = e.0 }) f.0, f.1))
    (map.entries e.1) ++ block path_below i (flat_entries at_part (drop (n + 1) es))
paths_next i es n e h =
    ap (λ t. block path_below i (flat_entries at_part t)) (next_of es n e h)
    ∙ map-append _ (block at_part e.0 (map.entries e.1)) (flat_entries at_part (drop (n + 1) es))
    ∙ ap (λ t. t ++ block path_below i (flat_entries at_part (drop (n + 1) es))) (paths_of i e.0 (map.entries e.1))

-- the values of a resource with their full paths
abbrev pub in_resource : ResourcePath → List (Option ℕ × Value) → List (FullPath × Value)
in_resource p es = map_list (λ f. (path_in p f.0, f.1)) es

pub parts_next : (p : ResourcePath) (es : List (ℕ × Value)) (i : ℕ) (e : ℕ × Value) → slice_get es i ≡ Some e
    → in_resource p (part_entries (drop i es))
    ≡ (path_in p (Some e.0), e.1) ∷ in_resource p (part_entries (drop (i + 1) es))
parts_next p es i e h = ap (λ t. in_resource p (part_entries t)) (next_of es i e h)

-- a loop over a table is at its end
pub all_done : {X : Type 0} (t : TableOf X) (i n : ℕ) → n ≡ map.len t → n ≤ i → drop i (map.entries t) ≡ []
all_done t i n e h = drop_of_length-le (map.entries t) (subst (λ k. k ≤ i) (e ∙ map.len-entries t) h)

pub shown_push : (xs : List (FullPath × Bor Value)) (x : FullPath × Bor Value)
    → shown_pairs (xs ++ x ∷ []) ≡ shown_pairs xs ++ (x.0, x.1.now) ∷ []
shown_push xs x = map-append _ xs (x ∷ [])
