-- Entries whose keys ascend: their front, and a map with one entry more.
use Rattle.std.proofs.Common.{◌≡◌, true, cond, List, [], ◌∷◌, ◌++◌, map, None, Some, Ordering, refl, sym, ap, subst}
use Rattle.std.proofs.Common.{◌∙◌}
use Rattle.std.specs.List.{AllByRecursion, list_all}
use Rattle.std.specs.Ordering.{is_lt, is_eq}
use Rattle.std.specs.declared.cmp.Ordering.TheVariants.{Less, Equal, Greater}
use Rattle.std.specs.Cmp.{IsTotalOrder}
use Rattle.std.specs.FinMap as finite
use Rattle.std.specs.FinMap.{FinMap}
use Rattle.std.specs.FinMap.Entries.{put, by_order, below_all, is_sorted, find}
use Rattle.std.proofs.lemmas.Bool.{and_parts, and_from}
use Rattle.lemmas.proofs.Lists.{each_here}
use Rattle.lemmas.proofs.Tests.{true_from_T}
use Rattle.scenario_layout.proofs.Between.{IsOneMore, behind_head}
use Rattle.scenario_layout.proofs.Ordered.{greater}

-- each key is below those after it
abbrev pub Ascends : {A K : Type 0} → (K → K → Ordering) → (A → K) → List A → Type 0
Ascends R key [] = Unit {0}
Ascends R key (a ∷ items) = AllByRecursion (λ b. is_lt (R (key a) (key b)) ≡ true) items × Ascends R key items

module _ {K X : Type 0} (R : K → K → Ordering) where
  all_below : (k : K) (es : List (K × X)) → below_all R k es ≡ true → AllByRecursion (λ e. is_lt (R k e.0) ≡ true) es
  all_below k [] h = tt
  all_below k (e ∷ es) h =
      let p = and_parts (is_lt (R k e.0)) (below_all R k es) h in
      (p.0, all_below k es p.1)

  pub entries_ascend : (es : List (K × X)) → is_sorted R es ≡ true → Ascends R (λ (e : K × X). e.0) es
  entries_ascend [] h = tt
  entries_ascend (e ∷ es) h =
      let p = and_parts (below_all R e.0 es) (is_sorted R es) h in
      (all_below e.0 es p.0, entries_ascend es p.1)

  keys_above : (k : K) (es : List (K × X)) → AllByRecursion (λ e. is_lt (R k e.0) ≡ true) es
      → AllByRecursion (λ j. is_lt (R k j) ≡ true) (map (λ (e : K × X). e.0) es)
  keys_above k [] h = tt
  keys_above k (e ∷ es) h = (h.0, keys_above k es h.1)

  pub keys_ascend : (es : List (K × X)) → Ascends R (λ (e : K × X). e.0) es
      → Ascends R (λ k. k) (map (λ (e : K × X). e.0) es)
  keys_ascend [] h = tt
  keys_ascend (e ∷ es) h = (keys_above e.0 es h.0, keys_ascend es h.1)

module _ {A K X : Type 0} (R : K → K → Ordering) (as_entry : A → K × X) where
  below_map : (k : K) (items : List A) → AllByRecursion (λ a. is_lt (R k (as_entry a).0) ≡ true) items
      → below_all R k (map as_entry items) ≡ true
  below_map k [] h = refl
  below_map k (a ∷ items) h = and_from (is_lt (R k (as_entry a).0)) _ h.0 (below_map k items h.1)

  pub is_in_order : (items : List A) → Ascends R (λ a. (as_entry a).0) items → is_sorted R (map as_entry items) ≡ true
  is_in_order [] h = refl
  is_in_order (a ∷ items) h =
      and_from (below_all R (as_entry a).0 (map as_entry items)) _ (below_map (as_entry a).0 items h.0)
      (is_in_order items h.1)

module _ {A K : Type 0} (R : K → K → Ordering) (key : A → K) where
  all_front : (P : A → Type 0) (front back : List A) → AllByRecursion P (front ++ back) → AllByRecursion P front
  all_front P [] back h = tt
  all_front P (a ∷ front) back h = (h.0, all_front P front back h.1)

  pub front_ascends : (front back : List A) → Ascends R key (front ++ back) → Ascends R key front
  front_ascends [] back h = tt
  front_ascends (a ∷ front) back h =
      (all_front (λ b. is_lt (R (key a) (key b)) ≡ true) front back h.0, front_ascends front back h.1)

  pub front_below : (front : List A) (a : A) (back : List A) → Ascends R key (front ++ a ∷ back)
      → list_all (λ b. is_lt (R (key b) (key a))) front ≡ true
  front_below [] a back h = refl
  front_below (x ∷ front) a back h =
      and_from (is_lt (R (key x) (key a))) _ (each_here (λ b. is_lt (R (key x) (key b)) ≡ true) front a back h.0)
      (front_below front a back h.1)

module _ {K X : Type 0} {R : K → K → Ordering} (total : IsTotalOrder R) where
  -- a key after all is not found
  pub none_behind : (k : K) (es : List (K × X)) → list_all (λ e. is_lt (R e.0 k)) es ≡ true → find R k es ≡ None
  none_behind k [] h = refl
  none_behind k (e ∷ es) h =
      let p = and_parts (is_lt (R e.0 k)) (list_all (λ e. is_lt (R e.0 k)) es) h in
      ap (λ r. cond (is_eq r) (Some e.1) (find R k es)) (greater total k e.0 p.0) ∙ none_behind k es p.1

  put_more : (k : K) (v : X) (es : List (K × X)) → find R k es ≡ None → IsOneMore (k, v) es (put R k v es)
  put_more k v [] none = record { front = []; back = []; was = refl; is = refl }
  put_more k v (e ∷ es) none =
      elim (R k e.0) as (λ r. cond (is_eq r) (Some e.1) (find R k es) ≡ None
      → IsOneMore (k, v) (e ∷ es) (by_order r ((k, v) ∷ e ∷ es) ((e.0, v) ∷ es) (e ∷ put R k v es))) [
        | Less ↦ λ n. record { front = []; back = e ∷ es; was = refl; is = refl }
        | Equal ↦ λ n. let clash : Some e.1 ≡ None = n in absurd cc
        | Greater ↦ λ n. behind_head e (k, v) es (put R k v es) (put_more k v es n)
      ] none

  -- a map with an entry at a new key
  pub insert_more : (m : FinMap R X) (k : K) (v : X) → finite.get m k ≡ None
      → IsOneMore (k, v) (finite.entries m) (finite.entries (finite.insert m k v))
  insert_more m k v none =
      subst (λ (es : List (K × X)). IsOneMore (k, v) (finite.entries m) es) (sym (finite.entries-insert total m k v))
      (put_more k v (finite.entries m) (sym (finite.get-entries m k) ∙ none))

  pub map_ascends : (m : FinMap R X) → Ascends R (λ (e : K × X). e.0) (finite.entries m)
  map_ascends m = entries_ascend R (finite.entries m) (true_from_T _ (finite.entries_sorted m))
