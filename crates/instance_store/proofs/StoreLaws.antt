-- What a store holds, made of its objects: what it has, what it lists, and what changes it.
use Rattle.std.proofs.Common.{◌≡◌, ℕ, ◌+◌, Bool, true, false, cond, not, ◌&&◌, eqb}
use Rattle.std.proofs.Common.{◌<◌}
use Rattle.std.proofs.Common.{List, [], ◌∷◌, ◌++◌, map as map_list}
use Rattle.std.proofs.Common.{length, drop, Option, None, Some, is_some, refl, sym, ap, subst, ◌∙◌, arith}
use Rattle.std.proofs.Common.{Ordering, append_assoc}
use Rattle.std.proofs.Math.Dec.{T}
use Rattle.std.specs.List.{filter, filter_map, slice_get}
use Rattle.std.specs.Ordering.{nat_cmp, is_eq, is_lt, eq_by_cmp}
use Rattle.std.specs.declared.cmp.Ordering.TheVariants.{Less, Equal, Greater}
use Rattle.std.specs.Cmp.{IsTotalOrder, nat_cmp_total}
use Rattle.std.specs.FinMap as map
use Rattle.std.specs.FinMap.{find, is_sorted}
use Rattle.std.specs.FinMap.Entries.{below_all}
use Rattle.std.proofs.lemmas.Bool.Decides.{nat_tests}
use Rattle.std.proofs.lemmas.List.{map-append}
use Rattle.std.proofs.lemmas.List.Filters.{length-filter_both}
use Rattle.std.proofs.lemmas.Map.Lookups.{CmpEqualImpliesEq}
use Rattle.lemmas.proofs.Orders.{is_equal}
use Rattle.lemmas.proofs.Tests.{T_both, T_first, T_second}
use Rattle.lemmas.proofs.Options.{none_from_test}
use Rattle.lwm2m_values.specs.declared.value.Value.{Value}
use Rattle.object_defs.specs.declared.path.FullPath.{FullPath}
use Rattle.object_defs.specs.declared.path.InstancePath.{InstancePath}
use Rattle.object_defs.specs.declared.path.ResourcePath.{ResourcePath}
use Rattle.object_defs.specs.declared.path.Path.{Path}
use Rattle.object_defs.specs.declared.path.Path.TheVariants.{Object, Resource, Part}
use Rattle.object_defs.specs.Path.{path_cmp, instance_cmp}
use Rattle.object_defs.proofs.PathOrder.{path_total, path_exact, instance_total, instance_exact}
use Rattle.instance_store.specs.Nested.{block, flat_entries, joined_map}
use Rattle.instance_store.specs.Stored.{Stored, value_at, value_count, has_instance, instances_of, lies_in, is_part}
use Rattle.instance_store.specs.Stored.{values_in, instance_of, resource_path, instance_path}
use Rattle.instance_store.specs.Stored.{with_value, without_values}
use Rattle.instance_store.specs.Stored.{with_instance, without_instance, empty}
use Rattle.instance_store.specs.Table.{TableOf}
use Rattle.instance_store.specs.Tree.{InstanceValues, Objects, place, tree, stored_from}
use Rattle.instance_store.specs.Tree.{keys_as_set, path_below, at_part}
use Rattle.instance_store.specs.Tree.{instance_below, value_at_part, value_cmp}
use Rattle.instance_store.proofs.Nested.{inside, held_in, get-joined_map, entries-joined_map, entries-sorted}
use Rattle.instance_store.proofs.Nested.{entries-kept, joined_map-put, joined_map-insert, joined_map-kept}
use Rattle.instance_store.proofs.Nested.{joined_map-empty, joined_map-removed, filter-joined_map, filter-outer}
use Rattle.instance_store.proofs.TreeLaws.{instance_nesting, value_nesting, value_total, value_exact, next_of, all_kept}

-- ---- the keys of a map as a set

abbrev mark : {X : Type 0} → Option X → Option (Unit {0})
mark None = None
mark (Some x) = Some tt

same_mark : {X : Type 0} (o : Option X) → is_some (mark o) ≡ is_some o
same_mark None = refl
same_mark (Some x) = refl

mark_first : {X : Type 0} (b : Bool) (x : X) (o : Option X) → cond b (Some tt) (mark o) ≡ mark (cond b (Some x) o)
mark_first true x o = refl
mark_first false x o = refl

mark_out : {X : Type 0} (b : Bool) (o : Option X) → mark (cond b None o) ≡ cond b None (mark o)
mark_out true o = refl
mark_out false o = refl

mark_known : {X : Type 0} (b : Bool) (x : X) (o : Option X) → (b ≡ true → is_some o ≡ true)
    → mark (cond b (Some x) o) ≡ mark o
mark_known true x None h = let e = h refl in cc
mark_known true x (Some y) h = refl
mark_known false x o h = refl

none_out : {X : Type 0} (b : Bool) (o : Option X) → (b ≡ true → o ≡ None) → cond b None o ≡ o
none_out true o h = sym (h refl)
none_out false o h = refl

put_out : {X : Type 0} (b : Bool) (x : X) (o : Option X) → (b ≡ true → o ≡ None) → cond b None (cond b (Some x) o) ≡ o
put_out true x o h = sym (h refl)
put_out false x o h = refl

abbrev marks : {K X : Type 0} → List (K × X) → List (K × Unit {0})
marks es = map_list (λ e. (e.0, tt)) es

abbrev entry_of : {K X : Type 0} → K → Option X → List (K × X)
entry_of q None = []
entry_of q (Some v) = (q, v) ∷ []

module _ {K X : Type 0} {R : K → K → Ordering} (total : IsTotalOrder R) (exact : CmpEqualImpliesEq R) where
  find-marks : (es : List (K × X)) (q : K) → find R q (marks es) ≡ mark (find R q es)
  find-marks [] q = refl
  find-marks (e ∷ es) q =
      ap (cond (eq_by_cmp R q e.0) (Some tt)) (find-marks es q)
      ∙ mark_first (eq_by_cmp R q e.0) e.1 (find R q es)

  get-keys : (m : map.FinMap R X) (q : K) → map.get (keys_as_set m) q ≡ mark (map.get m q)
  get-keys m q =
      map.get-from_entries total (marks (map.entries m)) q
      ∙ find-marks (map.entries m) q
      ∙ ap mark (sym (map.get-entries m q))

  pub has_key : (m : map.FinMap R X) (q : K) → is_some (map.get (keys_as_set m) q) ≡ is_some (map.get m q)
  has_key m q = ap is_some (get-keys m q) ∙ same_mark (map.get m q)

  pub keys-insert : (m : map.FinMap R X) (k : K) (v : X) → keys_as_set (map.insert m k v)
      ≡ map.insert (keys_as_set m) k tt
  keys-insert m k v = map.same_map total exact _ _ (λ q.
      get-keys (map.insert m k v) q
      ∙ ap mark (map.get-insert total m k v q)
      ∙ sym (mark_first (eq_by_cmp R q k) v (map.get m q))
      ∙ ap (cond (eq_by_cmp R q k) (Some tt)) (sym (get-keys m q))
      ∙ sym (map.get-insert total (keys_as_set m) k tt q))

  pub keys-known : (m : map.FinMap R X) (k : K) (v : X) → is_some (map.get m k) ≡ true
      → keys_as_set (map.insert m k v) ≡ keys_as_set m
  keys-known m k v h = map.same_map total exact _ _ (λ q.
      get-keys (map.insert m k v) q
      ∙ ap mark (map.get-insert total m k v q)
      ∙ mark_known (eq_by_cmp R q k) v (map.get m q)
      (λ e. ap (λ j. is_some (map.get m j)) (exact q k (is_equal _ e)) ∙ h)
      ∙ sym (get-keys m q))

  pub keys-remove : (m : map.FinMap R X) (k : K) → keys_as_set (map.remove m k) ≡ map.remove (keys_as_set m) k
  keys-remove m k = map.same_map total exact _ _ (λ q.
      get-keys (map.remove m k) q
      ∙ ap mark (map.get-remove total m k q)
      ∙ mark_out (eq_by_cmp R q k) (map.get m q)
      ∙ ap (cond (eq_by_cmp R q k) None) (sym (get-keys m q))
      ∙ sym (map.get-remove total (keys_as_set m) k q))

  -- a key that is not there is not removed, and one that was added is removed again
  remove-absent : (m : map.FinMap R X) (k : K) → map.get m k ≡ None → map.remove m k ≡ m
  remove-absent m k h = map.same_map total exact _ _ (λ q.
      map.get-remove total m k q
      ∙ none_out (eq_by_cmp R q k) (map.get m q) (λ e. ap (map.get m) (exact q k (is_equal _ e)) ∙ h))

  remove-insert : (m : map.FinMap R X) (k : K) (v : X) → map.get m k ≡ None → map.remove (map.insert m k v) k ≡ m
  remove-insert m k v h = map.same_map total exact _ _ (λ q.
      map.get-remove total (map.insert m k v) k q
      ∙ ap (cond (eq_by_cmp R q k) None) (map.get-insert total m k v q)
      ∙ put_out (eq_by_cmp R q k) v (map.get m q) (λ e. ap (map.get m) (exact q k (is_equal _ e)) ∙ h))

  below-marks : (k : K) (es : List (K × X)) → T (below_all R k es) → T (below_all R k (marks es))
  below-marks k [] h = tt
  below-marks k (e ∷ es) h = T_both _ _ (T_first _ _ h) (below-marks k es (T_second _ _ h))

  sorted-marks : (es : List (K × X)) → T (is_sorted R es) → T (is_sorted R (marks es))
  sorted-marks [] h = tt
  sorted-marks (e ∷ es) h = T_both _ _ (below-marks e.0 es (T_first _ _ h)) (sorted-marks es (T_second _ _ h))

  keys-marks : (es : List (K × X)) → map_list (λ (e : K × Unit {0}). e.0) (marks es) ≡ map_list (λ e. e.0) es
  keys-marks [] = refl
  keys-marks (e ∷ es) = ap (λ t. e.0 ∷ t) (keys-marks es)

  pub keys-keys : (m : map.FinMap R X) → map.keys (keys_as_set m) ≡ map.keys m
  keys-keys m =
      ap (map_list (λ e. e.0)) (entries-sorted total exact (marks (map.entries m))
      (sorted-marks (map.entries m) (map.entries_sorted m)))
      ∙ keys-marks (map.entries m)

  -- the entry of one key
  no_entry : (q : K) (es : List (K × X)) → T (below_all R q es) → filter (λ e. eq_by_cmp R q e.0) es ≡ []
  no_entry q [] h = refl
  no_entry q (e ∷ es) h =
      ap (λ b. cond b (e ∷ filter (λ e. eq_by_cmp R q e.0) es) (filter (λ e. eq_by_cmp R q e.0) es))
      (not_equal (R q e.0) (T_first _ _ h))
      ∙ no_entry q es (T_second _ _ h)
    where
      not_equal : (o : Ordering) → T (is_lt o) → is_eq o ≡ false
      not_equal Less p = refl
      not_equal Equal p = absurd p
      not_equal Greater p = absurd p

  one_at : (q : K) (e : K × X) (es : List (K × X)) (b : Bool) → eq_by_cmp R q e.0 ≡ b → T (below_all R e.0 es)
      → filter (λ e. eq_by_cmp R q e.0) es ≡ entry_of q (find R q es)
      → cond b (e ∷ filter (λ e. eq_by_cmp R q e.0) es) (filter (λ e. eq_by_cmp R q e.0) es)
      ≡ entry_of q (cond b (Some e.1) (find R q es))
  one_at q e es true t h rest =
      let same : q ≡ e.0 = exact q e.0 (is_equal _ t) in
      ap (λ r. e ∷ r) (ap (λ k. filter (λ e. eq_by_cmp R k e.0) es) same ∙ no_entry e.0 es h)
      ∙ ap (λ k. (k, e.1) ∷ []) (sym same)
  one_at q e es false t h rest = rest

  one_entry : (q : K) (es : List (K × X)) → T (is_sorted R es)
      → filter (λ e. eq_by_cmp R q e.0) es ≡ entry_of q (find R q es)
  one_entry q [] h = refl
  one_entry q (e ∷ es) h =
      one_at q e es (eq_by_cmp R q e.0) refl (T_first _ _ h) (one_entry q es (T_second _ _ h))

-- ---- the instances

pub tree_some : (o : Objects) (n i : ℕ) (object : TableOf InstanceValues) → map.get o n ≡ Some object
    → map.get (tree o) (place n i) ≡ map.get object i
tree_some o n i object h =
    get-joined_map instance_nesting o (place n i) ∙ ap (λ (s : Option (TableOf InstanceValues)). inside s i) h

pub tree_none : (o : Objects) (n i : ℕ) → map.get o n ≡ None → map.get (tree o) (place n i) ≡ None
tree_none o n i h =
    get-joined_map instance_nesting o (place n i) ∙ ap (λ (s : Option (TableOf InstanceValues)). inside s i) h

pub has-tree : (o : Objects) (at : InstancePath) → has_instance (stored_from o) at ≡ is_some (map.get (tree o) at)
has-tree o at = has_key instance_total instance_exact (tree o) at

pub tree-insert : (o : Objects) (n i : ℕ) (object : TableOf InstanceValues) (x : InstanceValues)
    → map.get o n ≡ Some object
    → tree (map.insert o n (map.insert object i x)) ≡ map.insert (tree o) (place n i) x
tree-insert o n i object x h =
    joined_map-insert instance_nesting o n object i x
    (λ j. ap (λ (s : Option (TableOf InstanceValues)). inside s j) (sym h))

pub tree-new : (o : Objects) (n i : ℕ) (x : InstanceValues) → map.get o n ≡ None
    → tree (map.insert o n (map.insert map.empty i x)) ≡ map.insert (tree o) (place n i) x
tree-new o n i x h =
    joined_map-insert instance_nesting o n map.empty i x
    (λ j. map.get-empty {X = InstanceValues} nat_cmp j
    ∙ ap (λ (s : Option (TableOf InstanceValues)). inside s j) (sym h))

same_tie : (n k i : ℕ) → eq_by_cmp nat_cmp k i ≡ eq_by_cmp instance_cmp (place n k) (place n i)
same_tie n k i = grind (arith, nat_tests)

no_tie : (q : InstancePath) (n i : ℕ) → eq_by_cmp nat_cmp q.object n ≡ false
    → eq_by_cmp instance_cmp q (place n i) ≡ false
no_tie q n i h = grind (arith, nat_tests)

pub tree-remove : (o : Objects) (n i : ℕ) (object : TableOf InstanceValues) → map.get o n ≡ Some object
    → tree (map.insert o n (map.remove object i)) ≡ map.remove (tree o) (place n i)
tree-remove o n i object h =
    joined_map-put instance_nesting o n (map.remove object i) (map.remove (tree o) (place n i))
    (λ k.
    map.get-remove nat_cmp_total object i k
    ∙ ap (λ b. cond b None (map.get object k)) (same_tie n k i)
    ∙ ap (cond (eq_by_cmp instance_cmp (place n k) (place n i)) None) (sym (tree_some o n k object h))
    ∙ sym (map.get-remove instance_total (tree o) (place n i) (place n k)))
    (λ q e.
    map.get-remove instance_total (tree o) (place n i) q
    ∙ ap (λ b. cond b None (map.get (tree o) q)) (no_tie q n i e))

-- ---- what a store has

pub value-some : (o : Objects) (path : FullPath) (m : InstanceValues) → map.get (tree o) (instance_below path) ≡ Some m
    → value_at (stored_from o) path ≡ map.get m (path.resource, path.part)
value-some o path m h =
    get-joined_map value_nesting (tree o) path
    ∙ ap (λ (s : Option InstanceValues). inside s (path.resource, path.part)) h

pub value-none : (o : Objects) (path : FullPath) → map.get (tree o) (instance_below path) ≡ None
    → value_at (stored_from o) path ≡ None
value-none o path h =
    get-joined_map value_nesting (tree o) path
    ∙ ap (λ (s : Option InstanceValues). inside s (path.resource, path.part)) h

-- ---- what changes a store

known : {X : Type 0} (o : Option X) (x : X) → o ≡ Some x → is_some o ≡ true
known o x h = ap is_some h

pub put-stored : (o p : Objects) (path : FullPath) (v : Value) (m : InstanceValues)
    → map.get (tree o) (instance_below path) ≡ Some m
    → tree p ≡ map.insert (tree o) (instance_below path) (map.insert m (path.resource, path.part) v)
    → stored_from p ≡ with_value (stored_from o) path v
put-stored o p path v m h e =
    let values : joined_map {R = path_cmp} path_below (tree p) ≡ map.insert (joined_map path_below (tree o)) path v =
    ap (joined_map path_below) e
    ∙ joined_map-insert value_nesting (tree o) (instance_below path) m (path.resource, path.part) v
    (λ j. ap (λ (s : Option InstanceValues). inside s j) (sym h)) in
    let instances : keys_as_set (tree p) ≡ keys_as_set (tree o) =
    ap keys_as_set e
    ∙ keys-known instance_total instance_exact (tree o) (instance_below path) _ (known _ m h) in
    λ i. record { values = values i; instances = instances i }

in_resource_here : (at : InstancePath) (r k : ℕ)
    → not (eqb k r) ≡ not ((eqb at.object at.object && eqb at.instance at.instance) && eqb k r)
in_resource_here at r k = grind (arith, nat_tests)

outside : (q at : InstancePath) → eq_by_cmp instance_cmp q at ≡ false
    → (eqb q.object at.object && eqb q.instance at.instance) ≡ false
outside q at h = grind (arith, nat_tests)

pub clear-stored : (o p : Objects) (path : ResourcePath) (m : InstanceValues)
    → map.get (tree o) (instance_of path) ≡ Some m
    → tree p ≡ map.insert (tree o) (instance_of path) (map.retain_keys m (λ k. not (eqb k.0 path.resource)))
    → stored_from p ≡ without_values (stored_from o) (resource_path path)
clear-stored o p path m h e =
    let at = instance_of path in
    let values : joined_map {R = path_cmp} path_below (tree p)
    ≡ map.retain_keys (joined_map path_below (tree o)) (λ q. not (lies_in (resource_path path) q)) =
    ap (joined_map path_below) e
    ∙ joined_map-kept value_nesting (tree o) at m (λ k. not (eqb k.0 path.resource))
    (λ q. not (lies_in (resource_path path) q))
    (λ j. ap (λ (s : Option InstanceValues). inside s j) (sym h))
    (λ j. in_resource_here at path.resource j.0)
    (λ q f. ap (λ b. not (b && eqb q.resource path.resource)) (outside (instance_below q) at f)) in
    let instances : keys_as_set (tree p) ≡ keys_as_set (tree o) =
    ap keys_as_set e ∙ keys-known instance_total instance_exact (tree o) at _ (known _ m h) in
    λ i. record { values = values i; instances = instances i }

same_place : (q at : InstancePath)
    → (eqb q.object at.object && eqb q.instance at.instance) ≡ eq_by_cmp instance_cmp q at
same_place q at = grind (arith, nat_tests)

pub remove-stored : (o p : Objects) (at : InstancePath) → tree p ≡ map.remove (tree o) at
    → stored_from p ≡ without_instance (stored_from o) at
remove-stored o p at e =
    let values : joined_map {R = path_cmp} path_below (tree p)
    ≡ map.retain_keys (joined_map path_below (tree o)) (λ q. not (lies_in (instance_path at) q)) =
    ap (joined_map path_below) e
    ∙ joined_map-removed value_nesting (tree o) at (λ q. not (lies_in (instance_path at) q))
    (λ q. ap not (same_place (instance_below q) at)) in
    let instances : keys_as_set (tree p) ≡ map.remove (keys_as_set (tree o)) at =
    ap keys_as_set e ∙ keys-remove instance_total instance_exact (tree o) at in
    λ i. record { values = values i; instances = instances i }

pub add-stored : (o p : Objects) (at : InstancePath) → map.get (tree o) at ≡ None
    → tree p ≡ map.insert (tree o) at map.empty
    → stored_from p ≡ with_instance (stored_from o) at
add-stored o p at h e =
    let values : joined_map {R = path_cmp} path_below (tree p) ≡ joined_map path_below (tree o) =
    ap (joined_map path_below) e ∙ joined_map-empty value_nesting (tree o) at h in
    let instances : keys_as_set (tree p) ≡ map.insert (keys_as_set (tree o)) at tt =
    ap keys_as_set e ∙ keys-insert instance_total instance_exact (tree o) at map.empty in
    λ i. record { values = values i; instances = instances i }

-- ---- how many values there are

-- the values that are removed and those that are left
pub count-without : (s : Stored) (path : Path)
    → length (values_in s path) + value_count (without_values s path) ≡ value_count s
count-without s path =
    ap (λ n. length (values_in s path) + n) (map.len-entries (without_values s path).values
    ∙ ap length (entries-kept path_total path_exact s.values (λ q. not (lies_in path q))))
    ∙ length-filter_both (λ e. lies_in path e.0) (λ e. not (lies_in path e.0)) (λ e. refl) (map.entries s.values)
    ∙ sym (map.len-entries s.values)

pub count-with : (s : Stored) (path : FullPath) (v : Value)
    → value_count (with_value s path v) ≡ cond (is_some (value_at s path)) (value_count s) (value_count s + 1)
count-with s path v = map.len-insert path_total s.values path v

-- a value that is set where there was none is one more, and elsewhere there are as many
pub count-more : (s : Stored) (path : FullPath) (v : Value) (added : Bool) → added ≡ not (is_some (value_at s path))
    → added ≡ true → value_count (with_value s path v) ≡ value_count s + 1
count-more s path v added h e =
    count-with s path v
    ∙ ap (λ b. cond b (value_count s) (value_count s + 1)) (off added (is_some (value_at s path)) h e)
  where
    off : (a b : Bool) → a ≡ not b → a ≡ true → b ≡ false
    off true true h e = cc
    off false true h e = cc
    off a false h e = refl

pub count-same : (s : Stored) (path : FullPath) (v : Value) → is_some (value_at s path) ≡ true
    → value_count (with_value s path v) ≡ value_count s
count-same s path v h = count-with s path v ∙ ap (λ b. cond b (value_count s) (value_count s + 1)) h

-- a value that is new to its instance can be counted
pub room_for : (s t : Stored) (path : FullPath) (added : Bool) (n : ℕ) → s ≡ t
    → has_instance s (instance_below path) ≡ true → added ≡ not (is_some (value_at s path)) → added ≡ true
    → (has_instance t (instance_below path) ≡ true → value_at t path ≡ None → value_count t + 1 < n)
    → value_count s + 1 < n
room_for s t path added n e there h a fits =
    subst (λ u. (has_instance u (instance_below path) ≡ true → value_at u path ≡ None → value_count u + 1 < n)
    → value_count s + 1 < n) e
    (λ f. f there (none_from_test (value_at s path) (off added (is_some (value_at s path)) h a))) fits
  where
    off : (a b : Bool) → a ≡ not b → a ≡ true → b ≡ false
    off true true h e = cc
    off false true h e = cc
    off a false h e = refl

pub there_unless : (a b : Bool) → a ≡ not b → a ≡ false → b ≡ true
there_unless true true h e = refl
there_unless false true h e = refl
there_unless true false h e = cc
there_unless false false h e = cc

-- ---- what a store lists

in_instance : (q at : InstancePath) → (eqb q.object at.object && eqb q.instance at.instance)
    ≡ (eq_by_cmp instance_cmp q at && true)
in_instance q at = grind (arith, nat_tests)

pub listed-instance : (o : Objects) (at : InstancePath) (m : InstanceValues) → map.get (tree o) at ≡ Some m
    → values_in (stored_from o) (instance_path at) ≡ block path_below at (map.entries m)
listed-instance o at m h =
    filter-joined_map value_nesting at (λ k. true) (lies_in (instance_path at)) (λ q. in_instance (instance_below q) at)
    (tree o)
    ∙ ap (held_in path_below at (λ k. true)) h
    ∙ ap (block path_below at) (all_kept (map.entries m))

pub listed-no_instance : (o : Objects) (at : InstancePath) → map.get (tree o) at ≡ None
    → values_in (stored_from o) (instance_path at) ≡ []
listed-no_instance o at h =
    filter-joined_map value_nesting at (λ k. true) (lies_in (instance_path at)) (λ q. in_instance (instance_below q) at)
    (tree o)
    ∙ ap (held_in path_below at (λ k. true)) h

in_place : (q at : InstancePath) (b : Bool) → ((eqb q.object at.object && eqb q.instance at.instance) && b)
    ≡ (eq_by_cmp instance_cmp q at && b)
in_place q at b = ap (λ a. a && b) (same_place q at)

pub listed-resource : (o : Objects) (at : InstancePath) (r : ℕ) (m : InstanceValues) → map.get (tree o) at ≡ Some m
    → values_in (stored_from o) (Resource at.object at.instance r)
    ≡ block path_below at (filter (λ e. eqb e.0.0 r) (map.entries m))
listed-resource o at r m h =
    filter-joined_map value_nesting at (λ k. eqb k.0 r) (lies_in (Resource at.object at.instance r))
    (λ q. in_place (instance_below q) at (eqb q.resource r)) (tree o)
    ∙ ap (held_in path_below at (λ k. eqb k.0 r)) h

pub listed-no_resource : (o : Objects) (at : InstancePath) (r : ℕ) → map.get (tree o) at ≡ None
    → values_in (stored_from o) (Resource at.object at.instance r) ≡ []
listed-no_resource o at r h =
    filter-joined_map value_nesting at (λ k. eqb k.0 r) (lies_in (Resource at.object at.instance r))
    (λ q. in_place (instance_below q) at (eqb q.resource r)) (tree o)
    ∙ ap (held_in path_below at (λ k. eqb k.0 r)) h

associated : (a b c : Bool) → ((a && b) && c) ≡ (a && (b && c))
associated true b c = refl
associated false b c = refl

in_part : (q at : InstancePath) (a b : Bool) → (((eqb q.object at.object && eqb q.instance at.instance) && a) && b)
    ≡ (eq_by_cmp instance_cmp q at && (a && b))
in_part q at a b =
    ap (λ c. c && b) (in_place q at a) ∙ associated (eq_by_cmp instance_cmp q at) a b

part_test : (r p : ℕ) (k : ℕ × Option ℕ) → (eqb k.0 r && is_part p k.1) ≡ eq_by_cmp value_cmp (at_part r (Some p)) k
part_test r p (n, None) = none_there n
  where
    none_there : (n : ℕ) → (eqb n r && false) ≡ eq_by_cmp value_cmp (at_part r (Some p)) (n, None)
    none_there n = grind (arith, nat_tests)
part_test r p (n, Some m) = some_there n m
  where
    some_there : (n m : ℕ) → (eqb n r && eqb m p) ≡ eq_by_cmp value_cmp (at_part r (Some p)) (n, Some m)
    some_there n m = grind (arith, nat_tests)

shown_part : (at : InstancePath) (r p : ℕ) (v : Option Value)
    → block path_below at (entry_of (at_part r (Some p)) v) ≡ value_at_part at r p v
shown_part at r p None = refl
shown_part at r p (Some v) = refl

pub listed-part : (o : Objects) (at : InstancePath) (r p : ℕ) (m : InstanceValues) → map.get (tree o) at ≡ Some m
    → values_in (stored_from o) (Part at.object at.instance r p)
    ≡ value_at_part at r p (map.get m (at_part r (Some p)))
listed-part o at r p m h =
    filter-joined_map value_nesting at (λ k. eqb k.0 r && is_part p k.1) (lies_in (Part at.object at.instance r p))
    (λ q. in_part (instance_below q) at (eqb q.resource r) (is_part p q.part)) (tree o)
    ∙ ap (held_in path_below at (λ k. eqb k.0 r && is_part p k.1)) h
    ∙ ap (λ (t : ℕ × Option ℕ → Bool). block path_below at (filter (λ e. t e.0) (map.entries m)))
    (λ i k. part_test r p k i)
    ∙ ap (block path_below at) (one_entry value_total value_exact (at_part r (Some p)) (map.entries m)
    (map.entries_sorted m))
    ∙ shown_part at r p (find value_cmp (at_part r (Some p)) (map.entries m))
    ∙ ap (value_at_part at r p) (sym (map.get-entries m (at_part r (Some p))))

pub listed-no_part : (o : Objects) (at : InstancePath) (r p : ℕ) → map.get (tree o) at ≡ None
    → values_in (stored_from o) (Part at.object at.instance r p) ≡ []
listed-no_part o at r p h =
    filter-joined_map value_nesting at (λ k. eqb k.0 r && is_part p k.1) (lies_in (Part at.object at.instance r p))
    (λ q. in_part (instance_below q) at (eqb q.resource r) (is_part p q.part)) (tree o)
    ∙ ap (held_in path_below at (λ k. eqb k.0 r && is_part p k.1)) h

in_object : (n k : ℕ) → eqb k n ≡ (eq_by_cmp nat_cmp k n && true)
in_object n k = grind (arith, nat_tests)

object_in : (o : Objects) (n : ℕ) → filter (λ e. eqb e.0.object n) (map.entries (tree o))
    ≡ held_in place n (λ k. true) (map.get o n)
object_in o n = filter-joined_map instance_nesting n (λ k. true) (λ q. eqb q.object n) (λ q. in_object n q.object) o

below_object : (o : Objects) (n : ℕ) → values_in (stored_from o) (Object n)
    ≡ flat_entries path_below (held_in place n (λ k. true) (map.get o n))
below_object o n =
    ap (filter (λ e. lies_in (Object n) e.0)) (entries-joined_map value_nesting (tree o))
    ∙ filter-outer value_nesting (λ q. eqb q.object n) (map.entries (tree o))
    ∙ ap (flat_entries path_below) (object_in o n)

pub listed-object : (o : Objects) (n : ℕ) (object : TableOf InstanceValues) → map.get o n ≡ Some object
    → values_in (stored_from o) (Object n) ≡ flat_entries path_below (block place n (map.entries object))
listed-object o n object h =
    below_object o n
    ∙ ap (λ s. flat_entries path_below (held_in place n (λ k. true) s)) h
    ∙ ap (λ es. flat_entries path_below (block place n es)) (all_kept (map.entries object))

pub listed-no_object : (o : Objects) (n : ℕ) → map.get o n ≡ None → values_in (stored_from o) (Object n) ≡ []
listed-no_object o n h = below_object o n ∙ ap (λ s. flat_entries path_below (held_in place n (λ k. true) s)) h

pub all-values : (o : Objects)
    → map.entries (stored_from o).values ≡ flat_entries path_below (flat_entries place (map.entries o))
all-values o = entries-joined_map value_nesting (tree o)
    ∙ ap (flat_entries path_below) (entries-joined_map instance_nesting o)

pub all-places : (o : Objects)
    → map.keys (stored_from o).instances ≡ map_list (λ e. e.0) (flat_entries place (map.entries o))
all-places o = keys-keys instance_total instance_exact (tree o)
    ∙ ap (map_list (λ e. e.0)) (entries-joined_map instance_nesting o)

keys_filter : (n : ℕ) (es : List (InstancePath × InstanceValues))
    → filter (λ p. eqb p.object n) (map_list (λ e. e.0) es) ≡ map_list (λ e. e.0) (filter (λ e. eqb e.0.object n) es)
keys_filter n [] = refl
keys_filter n (e ∷ es) =
    ap (λ t. cond (eqb e.0.object n) (e.0 ∷ t) t) (keys_filter n es)
    ∙ elim (eqb e.0.object n) as (λ b. cond b (e.0 ∷ map_list (λ e. e.0) (filter (λ e. eqb e.0.object n) es))
    (map_list (λ e. e.0) (filter (λ e. eqb e.0.object n) es))
    ≡ map_list (λ e. e.0) (cond b (e ∷ filter (λ e. eqb e.0.object n) es) (filter (λ e. eqb e.0.object n) es))) [
      | true ↦ refl
      | false ↦ refl
    ]

pub numbers_block : (n : ℕ) (es : List (ℕ × InstanceValues))
    → map_list (λ p. p.instance) (map_list (λ e. e.0) (block place n es)) ≡ map_list (λ e. e.0) es
numbers_block n [] = refl
numbers_block n (e ∷ es) = ap (λ t. e.0 ∷ t) (numbers_block n es)

numbers_in : (o : Objects) (n : ℕ) → instances_of (stored_from o) n
    ≡ map_list (λ p. p.instance) (map_list (λ e. e.0) (held_in place n (λ k. true) (map.get o n)))
numbers_in o n =
    ap (λ ks. map_list (λ (p : InstancePath). p.instance) (filter (λ p. eqb p.object n) ks))
    (keys-keys instance_total instance_exact (tree o))
    ∙ ap (map_list (λ (p : InstancePath). p.instance)) (keys_filter n (map.entries (tree o)))
    ∙ ap (λ es. map_list (λ (p : InstancePath). p.instance) (map_list (λ e. e.0) es)) (object_in o n)

pub numbers-some : (o : Objects) (n : ℕ) (object : TableOf InstanceValues) → map.get o n ≡ Some object
    → instances_of (stored_from o) n ≡ map.keys object
numbers-some o n object h =
    numbers_in o n
    ∙ ap (λ s. map_list (λ (p : InstancePath). p.instance) (map_list (λ e. e.0) (held_in place n (λ k. true) s))) h
    ∙ ap (λ es. map_list (λ (p : InstancePath). p.instance) (map_list (λ e. e.0) (block place n es)))
    (all_kept (map.entries object))
    ∙ numbers_block n (map.entries object)

pub numbers-none : (o : Objects) (n : ℕ) → map.get o n ≡ None → instances_of (stored_from o) n ≡ []
numbers-none o n h =
    numbers_in o n
    ∙ ap (λ s. map_list (λ (p : InstancePath). p.instance) (map_list (λ e. e.0) (held_in place n (λ k. true) s))) h

-- the numbers of the resources, and of the parts, do not depend on the instance
pub resource_numbers : (at : InstancePath) (es : List ((ℕ × Option ℕ) × Value))
    → map_list (λ e. e.0.resource) (block path_below at es) ≡ map_list (λ e. e.0.0) es
resource_numbers at [] = refl
resource_numbers at (e ∷ es) = ap (λ t. e.0.0 ∷ t) (resource_numbers at es)

pub part_numbers : (at : InstancePath) (es : List ((ℕ × Option ℕ) × Value))
    → filter_map (λ e. e.0.part) (block path_below at es) ≡ filter_map (λ e. e.0.1) es
part_numbers at [] = refl
part_numbers at (((r, None), v) ∷ es) = part_numbers at es
part_numbers at (((r, Some n), v) ∷ es) = ap (λ t. n ∷ t) (part_numbers at es)

pub flat_entries-append : (xs ys : List (InstancePath × InstanceValues))
    → flat_entries path_below (xs ++ ys) ≡ flat_entries path_below xs ++ flat_entries path_below ys
flat_entries-append [] ys = refl
flat_entries-append (x ∷ xs) ys =
    ap (λ t. block path_below x.0 (map.entries x.1) ++ t) (flat_entries-append xs ys)
    ∙ sym (append_assoc (block path_below x.0 (map.entries x.1)) (flat_entries path_below xs)
    (flat_entries path_below ys))

pub object_next : (es : List (ℕ × TableOf InstanceValues)) (i : ℕ) (e : ℕ × TableOf InstanceValues)
    → slice_get es i ≡ Some e
    → flat_entries path_below (flat_entries place (drop i es))
    ≡ flat_entries path_below (block place e.0 (map.entries e.1))
    ++ flat_entries path_below (flat_entries place (drop (i + 1) es))
object_next es i e h =
    ap (λ t. flat_entries path_below (flat_entries place t)) (next_of es i e h)
    ∙ flat_entries-append (block place e.0 (map.entries e.1)) (flat_entries place (drop (i + 1) es))

place_keys : (n : ℕ) (es : List (ℕ × InstanceValues))
    → map_list (λ e. e.0) (block place n es) ≡ map_list (place n) (map_list (λ e. e.0) es)
place_keys n [] = refl
place_keys n (e ∷ es) = ap (λ t. place n e.0 ∷ t) (place_keys n es)

pub places_next : (es : List (ℕ × TableOf InstanceValues)) (i : ℕ) (e : ℕ × TableOf InstanceValues)
    → slice_get es i ≡ Some e
    → map_list (λ f. f.0) (flat_entries place (drop i es))
    ≡ map_list (place e.0) (map.keys e.1) ++ map_list (λ f. f.0) (flat_entries place (drop (i + 1) es))
places_next es i e h =
    ap (λ t. map_list (λ (f : InstancePath × InstanceValues). f.0) (flat_entries place t)) (next_of es i e h)
    ∙ map-append (λ f. f.0) (block place e.0 (map.entries e.1)) (flat_entries place (drop (i + 1) es))
    ∙ ap (λ t. t ++ map_list (λ (f : InstancePath × InstanceValues). f.0) (flat_entries place (drop (i + 1) es)))
    (place_keys e.0 (map.entries e.1))

-- a store has an instance where the objects have it
pub no_instance : (o : Objects) (at : InstancePath) → has_instance (stored_from o) at ≡ true → map.get (tree o) at
    ≡ None → ⊥
no_instance o at h e = absurd (subst T (sym h ∙ has-tree o at ∙ ap is_some e) tt)

pub none_there : (o : Objects) (at : InstancePath) → has_instance (stored_from o) at ≡ false → map.get (tree o) at
    ≡ None
none_there o at h = none_from_test (map.get (tree o) at) (sym (has-tree o at) ∙ h)

-- a new instance has no value: removing it again restores the store
pub removed_again : (o : Objects) (at : InstancePath) → has_instance (stored_from o) at ≡ false
    → without_instance (with_instance (stored_from o) at) at ≡ stored_from o
removed_again o at h =
    let values : map.retain_keys (stored_from o).values (λ q. not (lies_in (instance_path at) q))
    ≡ (stored_from o).values =
    sym (ap (λ (s : Stored). s.values) (remove-stored o o at
    (sym (remove-absent instance_total instance_exact (tree o) at (none_there o at h))))) in
    let instances : map.remove (map.insert (stored_from o).instances at tt) at ≡ (stored_from o).instances =
    remove-insert instance_total instance_exact (stored_from o).instances at tt
    (none_from_test (map.get (stored_from o).instances at) h) in
    λ i. record { values = values i; instances = instances i }

-- whether there is an instance, by what the objects have
pub known_instance : (o : Objects) (at : InstancePath) (m : InstanceValues) → map.get (tree o) at ≡ Some m
    → has_instance (stored_from o) at ≡ true
known_instance o at m h = has-tree o at ∙ ap is_some h

pub unknown_instance : (o : Objects) (at : InstancePath) → map.get (tree o) at ≡ None
    → has_instance (stored_from o) at ≡ false
unknown_instance o at h = has-tree o at ∙ ap is_some h

tree-empty : tree map.empty ≡ map.empty
tree-empty = map.same_map instance_total instance_exact _ _ (λ q.
    get-joined_map instance_nesting map.empty q
    ∙ ap (λ (s : Option (TableOf InstanceValues)). inside s q.instance)
    (map.get-empty {X = TableOf InstanceValues} nat_cmp q.object)
    ∙ sym (map.get-empty {X = InstanceValues} instance_cmp q))

-- objects without an instance hold nothing
pub stored-none : (o : Objects) → tree o ≡ map.empty → stored_from o ≡ empty
stored-none o none =
    let values : joined_map {R = path_cmp} path_below (tree o) ≡ map.empty =
    ap (joined_map path_below) none
    ∙ map.same_map path_total path_exact _ _ (λ q.
    get-joined_map value_nesting map.empty q
    ∙ ap (λ (s : Option InstanceValues). inside s (q.resource, q.part))
    (map.get-empty {X = InstanceValues} instance_cmp (instance_below q))
    ∙ sym (map.get-empty {X = Value} path_cmp q)) in
    let instances : keys_as_set (tree o) ≡ map.empty =
    ap keys_as_set none
    ∙ map.same_map instance_total instance_exact _ _ (λ q.
    get-keys instance_total instance_exact map.empty q
    ∙ ap mark (map.get-empty {X = InstanceValues} instance_cmp q)
    ∙ sym (map.get-empty {X = Unit {0}} instance_cmp q)) in
    λ i. record { values = values i; instances = instances i }

pub store-empty : stored_from map.empty ≡ empty
store-empty = stored-none map.empty tree-empty

-- the instances that are left are those of all objects
abbrev pub Left : Objects → ℕ → Type 0
Left o i = flat_entries place (drop i (map.entries o)) ≡ map.entries (tree o)

pub left_all : (o : Objects) → Left o 0
left_all o = sym (entries-joined_map instance_nesting o)

no_entries : {X : Type 0} (xs : List X) → length xs ≡ 0 → xs ≡ []
no_entries [] h = refl
no_entries (x ∷ xs) h = absurd (omega (arith, h))

-- an object without an instance is passed
pub left_next : (o : Objects) (i : ℕ) (e : ℕ × TableOf InstanceValues) → Left o i
    → slice_get (map.entries o) i ≡ Some e → map.len e.1 ≡ 0 → Left o (i + 1)
left_next o i e left here none =
    ap (λ es. block place e.0 es ++ flat_entries place (drop (i + 1) (map.entries o)))
    (sym (no_entries (map.entries e.1) (sym (map.len-entries e.1) ∙ none)))
    ∙ ap (flat_entries place) (sym (next_of (map.entries o) i e here))
    ∙ left

pub left_none : (o : Objects) (i : ℕ) → Left o i → drop i (map.entries o) ≡ [] → stored_from o ≡ empty
left_none o i left done =
    let none : map.entries (tree o) ≡ [] = sym left ∙ ap (flat_entries place) done in
    stored-none o (map.empty_of_len (tree o) (map.len-entries (tree o) ∙ ap length none))

has_entry : (n : ℕ) (es : List (ℕ × InstanceValues)) (rest : List (InstancePath × InstanceValues)) → 0 < length es
    → map_list (λ f. f.0) (block place n es ++ rest) ≡ [] → ⊥
has_entry n [] rest h e = absurd (omega (arith, h))
has_entry n (x ∷ xs) rest h e = absurd (cc)

-- objects with an instance are not nothing
pub left_some : (o : Objects) (i : ℕ) (e : ℕ × TableOf InstanceValues) → Left o i
    → slice_get (map.entries o) i ≡ Some e → 0 < map.len e.1 → stored_from o ≡ empty → ⊥
left_some o i e left here some none =
    let bare : map.keys (map.empty {X = Unit {0}} {R = instance_cmp}) ≡ [] =
    ap (map_list (λ f. f.0)) (no_entries (map.entries (map.empty {X = Unit {0}} {R = instance_cmp}))
    (sym (map.len-entries (map.empty {X = Unit {0}} {R = instance_cmp})) ∙ map.len-empty instance_cmp (Unit {0}))) in
    let keys : map_list (λ (f : InstancePath × InstanceValues). f.0) (flat_entries place (map.entries o)) ≡ [] =
    sym (all-places o) ∙ ap (λ (s : Stored). map.keys s.instances) none ∙ bare in
    has_entry e.0 (map.entries e.1) (flat_entries place (drop (i + 1) (map.entries o)))
    (subst (λ n. 0 < n) (map.len-entries e.1) some)
    (ap (λ es. map_list (λ (f : InstancePath × InstanceValues). f.0) (flat_entries place es))
    (sym (next_of (map.entries o) i e here))
    ∙ ap (map_list (λ (f : InstancePath × InstanceValues). f.0)) (left ∙ sym (left_all o)) ∙ keys)
