-- Finite maps that are made of an ordered map's entries: what they have at a key, and how a change of one key changes
-- them.
use Rattle.std.proofs.Common.{◌≡◌, Bool, true, false, cond, ◌||◌, List, [], ◌∷◌, map, Option, None, Some}
use Rattle.std.proofs.Common.{Ordering, refl, sym, ap, subst, ◌∙◌}
use Rattle.std.proofs.Math.Dec.{T}
use Rattle.std.specs.Option.{is_some}
use Rattle.std.specs.List.{filter, list_any, AllByRecursion}
use Rattle.std.specs.List.Sorted.{IsStrictlySortedBy}
use Rattle.std.specs.Ordering.{is_lt, eq_by_cmp}
use Rattle.std.specs.declared.cmp.Ordering.TheVariants.{Less, Equal}
use Rattle.std.specs.Cmp.{IsTotalOrder, eq_by_cmp_equiv}
use Rattle.std.specs.Map.{keys_of, lookup}
use Rattle.std.specs.BTreeMap.{is_at}
use Rattle.std.specs.FinMap.{FinMap, find, is_sorted, get, insert, remove, retain_keys, entries, from_entries}
use Rattle.std.specs.FinMap.{from_sorted, entries-from_sorted, get-from_sorted, get-from_entries, get-insert}
use Rattle.std.specs.FinMap.{get-remove, get-retain_keys, same_map}
use Rattle.std.specs.FinMap.Entries.{below_all}
use Rattle.std.proofs.lemmas.Map.Lookups.{CmpEqualImpliesEq}
use Rattle.std.proofs.lemmas.Map.Entries.{lookup-filter-keys}
use Rattle.lemmas.proofs.Orders.{is_equal}
use Rattle.lemmas.proofs.Tests.{T_both}

-- the two look-ups in a list of entries
pub find_lookup : {K X : Type 0} (R : K → K → Ordering) (es : List (K × X)) (q : K)
    → find R q es ≡ lookup (is_at (R q)) es
find_lookup R [] q = refl
find_lookup R (e ∷ es) q = ap (cond (is_at (R q) e.0) (Some e.1)) (find_lookup R es q)

-- a key that ties is the key
alike_key : {K : Type 0} (R : K → K → Ordering) → CmpEqualImpliesEq R → (p : K → Bool) (q x : K) → R q x ≡ Equal
    → p x ≡ p q
alike_key R exact p q x h = ap p (sym (exact q x h))

below_sorted : {K X : Type 0} (R : K → K → Ordering) (k : K) (es : List (K × X))
    → AllByRecursion (λ y. R k y ≡ Less) (keys_of es) → T (below_all R k es)
below_sorted R k [] h = tt
below_sorted R k (e ∷ es) h = T_both _ _ (subst (λ r. T (is_lt r)) (sym h.0) tt) (below_sorted R k es h.1)

sorted_list : {K X : Type 0} (R : K → K → Ordering) (es : List (K × X)) → IsStrictlySortedBy R (keys_of es)
    → T (is_sorted R es)
unfolding IsStrictlySortedBy
sorted_list R [] h = tt
sorted_list R (e ∷ es) h = T_both _ _ (below_sorted R e.0 es h.0) (sorted_list R es h.1)

module _ {K X : Type 0} {R : K → K → Ordering} (total : IsTotalOrder R) where
  -- what the map of some entries has at a key
  pub get_entries : (es : List (K × X)) (q : K) → get (from_entries {R = R} es) q ≡ lookup (is_at (R q)) es
  get_entries es q = get-from_entries total es q ∙ find_lookup R es q

  module _ (exact : CmpEqualImpliesEq R) where
    -- entries that look alike at each key make one map
    pub same_entries : (es fs : List (K × X)) → ((q : K) → lookup (is_at (R q)) fs ≡ lookup (is_at (R q)) es)
        → from_entries {R = R} fs ≡ from_entries es
    same_entries es fs h = same_map total exact _ _ (λ q. get_entries fs q ∙ h q ∙ sym (get_entries es q))

    -- entries in which one key has another value
    pub one_put : (es fs : List (K × X)) (k : K) (v : X)
        → ((q : K) → lookup (is_at (R q)) fs ≡ cond (is_at (R k) q) (Some v) (lookup (is_at (R q)) es))
        → from_entries {R = R} fs ≡ insert (from_entries es) k v
    one_put es fs k v h = same_map total exact _ _ (λ q.
        get_entries fs q ∙ h q ∙ ap (λ b. cond b (Some v) (lookup (is_at (R q)) es)) ((eq_by_cmp_equiv total).symm k q)
        ∙ sym (get-insert total (from_entries es) k v q ∙ ap (cond (eq_by_cmp R q k) (Some v)) (get_entries es q)))

    -- entries from which one key is gone
    pub one_removed : (es fs : List (K × X)) (k : K)
        → ((q : K) → lookup (is_at (R q)) fs ≡ cond (is_at (R k) q) None (lookup (is_at (R q)) es))
        → from_entries {R = R} fs ≡ remove (from_entries es) k
    one_removed es fs k h = same_map total exact _ _ (λ q.
        get_entries fs q ∙ h q ∙ ap (λ b. cond b None (lookup (is_at (R q)) es)) ((eq_by_cmp_equiv total).symm k q)
        ∙ sym (get-remove total (from_entries es) k q ∙ ap (cond (eq_by_cmp R q k) None) (get_entries es q)))

    -- what a map keeps of the keys that pass a test, at a key
    pub get_kept : (m : FinMap R X) (p : K → Bool) (q : K) → get (retain_keys m p) q ≡ cond (p q) (get m q) None
    get_kept m p q = get-retain_keys m p q (alike_key R exact p q)

    -- entries of which those whose keys pass a test are left
    pub kept_keys : (p : K → Bool) (es fs : List (K × X))
        → ((q : K) → lookup (is_at (R q)) fs ≡ cond (p q) (lookup (is_at (R q)) es) None)
        → from_entries {R = R} fs ≡ retain_keys (from_entries es) p
    kept_keys p es fs h = same_map total exact _ _ (λ q.
        get_entries fs q ∙ h q ∙ sym (get_kept (from_entries es) p q ∙ ap (λ o. cond (p q) o None) (get_entries es q)))

    pub kept_keys-filter : (p : K → Bool) (es : List (K × X))
        → from_entries {R = R} (filter (λ e. p e.0) es) ≡ retain_keys (from_entries es) p
    kept_keys-filter p es =
        kept_keys p es _ (λ q. lookup-filter-keys (is_at (R q)) p (p q)
        (λ k h. alike_key R exact p q k (is_equal _ h)) es)

    -- the entries of an ordered map are those of the finite map
    pub entries-from_entries : (es : List (K × X)) → IsStrictlySortedBy R (keys_of es)
        → entries (from_entries {R = R} es) ≡ es
    entries-from_entries es h =
        let sorted = sorted_list R es h in
        ap entries (same_map total exact (from_entries es) (from_sorted es)
        (λ q. get-from_entries total es q ∙ sym (get-from_sorted R es q sorted)))
        ∙ entries-from_sorted R es sorted

-- a set of keys, as a map to the unit
abbrev pub units : {K : Type 0} → List K → List (K × Unit {0})
units ks = map (λ k. (k, tt)) ks

module _ {K : Type 0} {R : K → K → Ordering} (total : IsTotalOrder R) where
  pub find_units : (ks : List K) (q : K) → is_some (find R q (units ks)) ≡ list_any (eq_by_cmp R q) ks
  find_units [] q = refl
  find_units (k ∷ ks) q =
      elim (eq_by_cmp R q k) as (λ b. is_some (cond b (Some tt) (find R q (units ks)))
      ≡ (b || list_any (eq_by_cmp R q) ks)) [ true ↦ refl | false ↦ find_units ks q ]

  -- whether the set of some keys has a key
  pub has_units : (ks : List K) (q : K)
      → is_some (get (from_entries {R = R} (units ks)) q) ≡ list_any (eq_by_cmp R q) ks
  has_units ks q = ap is_some (get-from_entries total (units ks) q) ∙ find_units ks q

  same_marks : (a b : Option (Unit {0})) → is_some a ≡ is_some b → a ≡ b
  same_marks None None h = refl
  same_marks None (Some y) h = cc
  same_marks (Some x) None h = cc
  same_marks (Some x) (Some y) h = refl

  module _ (exact : CmpEqualImpliesEq R) where
    -- sets that have the same keys are one
    pub same_units : (m n : FinMap R (Unit {0})) → ((q : K) → is_some (get m q) ≡ is_some (get n q)) → m ≡ n
    same_units m n h = same_map total exact m n (λ q. same_marks _ _ (h q))

    is_some-put : (b : Bool) (o : Option (Unit {0})) → is_some (cond b (Some tt) o) ≡ cond b true (is_some o)
    is_some-put true o = refl
    is_some-put false o = refl

    is_some-out : (b : Bool) (o : Option (Unit {0})) → is_some (cond b None o) ≡ cond b false (is_some o)
    is_some-out true o = refl
    is_some-out false o = refl

    -- keys among which there is one more
    pub one_added : (ks ls : List K) (k : K)
        → ((q : K) → list_any (eq_by_cmp R q) ls ≡ cond (is_at (R k) q) true (list_any (eq_by_cmp R q) ks))
        → from_entries {R = R} (units ls) ≡ insert (from_entries (units ks)) k tt
    one_added ks ls k h = same_units _ _ (λ q.
        has_units ls q ∙ h q ∙ ap (λ b. cond b true (list_any (eq_by_cmp R q) ks)) ((eq_by_cmp_equiv total).symm k q)
        ∙ sym (ap is_some (get-insert total (from_entries (units ks)) k tt q) ∙ is_some-put (eq_by_cmp R q k) _
        ∙ ap (cond (eq_by_cmp R q k) true) (has_units ks q)))

    -- keys from which one is gone
    pub one_dropped : (ks ls : List K) (k : K)
        → ((q : K) → list_any (eq_by_cmp R q) ls ≡ cond (is_at (R k) q) false (list_any (eq_by_cmp R q) ks))
        → from_entries {R = R} (units ls) ≡ remove (from_entries (units ks)) k
    one_dropped ks ls k h = same_units _ _ (λ q.
        has_units ls q ∙ h q ∙ ap (λ b. cond b false (list_any (eq_by_cmp R q) ks)) ((eq_by_cmp_equiv total).symm k q)
        ∙ sym (ap is_some (get-remove total (from_entries (units ks)) k q) ∙ is_some-out (eq_by_cmp R q k) _
        ∙ ap (cond (eq_by_cmp R q k) false) (has_units ks q)))
