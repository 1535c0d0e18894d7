-- Lists whose keys ascend, and the finite maps of them.
use Rattle.std.proofs.Common.{◌≡◌, ℕ, zero, suc, Bool, true, false, cond, ◌&&◌, ltb, List, [], ◌∷◌, ◌++◌, map, Some}
use Rattle.std.proofs.Common.{Ordering, refl, ap, subst, ◌∙◌, append_assoc, arith}
use Rattle.std.proofs.Math.Dec.{T}
use Rattle.std.specs.List.{list_all}
use Rattle.std.specs.Ordering.{is_lt, ordering_reverse}
use Rattle.std.specs.declared.cmp.Ordering.TheVariants.{Less, Equal, Greater}
use Rattle.std.specs.Cmp.{IsTotalOrder}
use Rattle.std.specs.FinMap as finite
use Rattle.std.specs.FinMap.{FinMap}
use Rattle.std.specs.FinMap.Entries.{put, by_order, below_all, is_sorted}
use Rattle.std.proofs.lemmas.Bool.Decides.{nat_tests}
use Rattle.std.proofs.lemmas.Bool.{and_parts, and_from}
use Rattle.object_defs.specs.Vendor.{with_inserted}
use Rattle.byte_layout.specs.Layout.{Layout, each}
use Rattle.scenario_layout.specs.Growing.{IsLast}

pub is_true : (b : Bool) → b ≡ true → T b
is_true true e = tt
is_true false e = absurd cc

not_above : (x y : ℕ) → ltb y x ≡ true → ltb x y ≡ false
not_above x y h = grind (arith, nat_tests)

-- what stands above all goes to the end
pub inserted_end : {X : Type 0} (number : X → ℕ) (x : X) (xs : List X)
    → list_all (λ y. ltb (number y) (number x)) xs ≡ true → with_inserted number x xs ≡ xs ++ x ∷ []
inserted_end number x [] h = refl
inserted_end number x (y ∷ ys) h =
    let p = and_parts (ltb (number y) (number x)) (list_all (λ y. ltb (number y) (number x)) ys) h in
    ap (λ b. cond b (x ∷ y ∷ ys) (y ∷ with_inserted number x ys)) (not_above (number x) (number y) p.0)
    ∙ ap (λ t. y ∷ t) (inserted_end number x ys p.1)

pub all_push : {X : Type 0} (p : X → Bool) (xs : List X) (x : X) → list_all p (xs ++ x ∷ []) ≡ (list_all p xs && p x)
all_push p [] x = and_end (p x)
  where
    and_end : (b : Bool) → (b && true) ≡ b
    and_end true = refl
    and_end false = refl
all_push p (y ∷ ys) x = ap (λ b. p y && b) (all_push p ys x) ∙ and_assoc (p y) (list_all p ys) (p x)
  where
    and_assoc : (a b c : Bool) → (a && (b && c)) ≡ ((a && b) && c)
    and_assoc true b c = refl
    and_assoc false b c = refl

-- the test of one among them
pub all_at : {X : Type 0} (p : X → Bool) (front : List X) (x : X) (back : List X)
    → list_all p (front ++ x ∷ back) ≡ true → p x ≡ true
all_at p [] x back h = (and_parts (p x) (list_all p back) h).0
all_at p (y ∷ front) x back h = all_at p front x back (and_parts (p y) (list_all p (front ++ x ∷ back)) h).1

is_less : (r : Ordering) → is_lt r ≡ true → r ≡ Less
is_less Less h = refl
is_less Equal h = absurd cc
is_less Greater h = absurd cc

pub greater : {K : Type 0} {R : K → K → Ordering} → IsTotalOrder R → (k j : K) → is_lt (R j k) ≡ true → R k j ≡ Greater
greater {R = R} total k j h = total.antisymm k j ∙ ap ordering_reverse (is_less (R j k) h)

module _ {K X : Type 0} {R : K → K → Ordering} where
  -- the map of its own entries
  pub from_entries_of : (m : FinMap R X) → finite.from_sorted (finite.entries m) ≡ m
  from_entries_of m =
      finite.same_entries_map _ m (finite.entries-from_sorted R (finite.entries m) (finite.entries_sorted m))

  module _ (total : IsTotalOrder R) where
    put_end : (k : K) (v : X) (es : List (K × X)) → list_all (λ e. is_lt (R e.0 k)) es ≡ true
        → put R k v es ≡ es ++ (k, v) ∷ []
    put_end k v [] h = refl
    put_end k v (e ∷ es) h =
        let p = and_parts (is_lt (R e.0 k)) (list_all (λ e. is_lt (R e.0 k)) es) h in
        ap (λ r. by_order r ((k, v) ∷ e ∷ es) ((e.0, v) ∷ es) (e ∷ put R k v es)) (greater total k e.0 p.0)
        ∙ ap (λ t. e ∷ t) (put_end k v es p.1)

    -- a key after all goes to the end
    pub insert_end : (m : FinMap R X) (k : K) (v : X) → list_all (λ e. is_lt (R e.0 k)) (finite.entries m) ≡ true
        → finite.entries (finite.insert m k v) ≡ finite.entries m ++ (k, v) ∷ []
    insert_end m k v h = finite.entries-insert total m k v ∙ put_end k v (finite.entries m) h

module _ {A K : Type 0} {R : K → K → Ordering} (total : IsTotalOrder R) (key : A → K) where
  all_less : (k j : K) → R k j ≡ Less → (items : List A) → list_all (λ a. is_lt (R (key a) k)) items ≡ true
      → list_all (λ a. is_lt (R (key a) j)) items ≡ true
  all_less k j less [] h = refl
  all_less k j less (a ∷ items) h =
      let p = and_parts (is_lt (R (key a) k)) (list_all (λ a. is_lt (R (key a) k)) items) h in
      and_from (is_lt (R (key a) j)) _ (ap is_lt (total.trans (key a) k j (is_less (R (key a) k) p.0) less))
      (all_less k j less items p.1)

  last_test : (k j : K) (items : List A) (b : Bool) → is_lt (R k j) ≡ b
      → list_all (λ a. is_lt (R (key a) k)) items ≡ true → (list_all (λ a. is_lt (R (key a) j)) items && b) ≡ b
  last_test k j items true e h =
      and_from (list_all (λ a. is_lt (R (key a) j)) items) true (all_less k j (is_less (R k j) e) items h) refl
  last_test k j items false e h = no_end (list_all (λ a. is_lt (R (key a) j)) items)
    where
      no_end : (b : Bool) → (b && false) ≡ false
      no_end true = refl
      no_end false = refl

  -- an item after all of them is the last
  pub last_push : (items : List A) (a : A) → list_all (λ b. is_lt (R (key b) (key a))) items ≡ true
      → IsLast R key (items ++ a ∷ []) (Some (key a))
  last_push items a h =
      λ j. all_push (λ b. is_lt (R (key b) j)) items a ∙ last_test (key a) j items (is_lt (R (key a) j)) refl h

-- items, each of which stands after those before it, ascend
module _ {A K X : Type 0} (R : K → K → Ordering) (as_entry : A → K × X) (part : List A → Layout A)
    (behind : (before : List A) (a : A) → (part before).Good a
    → list_all (λ b. is_lt (R (as_entry b).0 (as_entry a).0)) before ≡ true) where
  below_rest : (n : ℕ) (front : List A) (a : A) (back xs : List A) → (each part n (front ++ a ∷ back)).Good xs
      → below_all R (as_entry a).0 (map as_entry xs) ≡ true
  unfolding each
  below_rest zero front a back xs good = ap (λ ys. below_all R (as_entry a).0 (map as_entry ys)) good
  below_rest (suc n) front a back [] good = absurd good
  below_rest (suc n) front a back (x ∷ xs) good =
      and_from (is_lt (R (as_entry a).0 (as_entry x).0)) _
      (all_at (λ b. is_lt (R (as_entry b).0 (as_entry x).0)) front a back (behind (front ++ a ∷ back) x good.0))
      (below_rest n front a (back ++ x ∷ []) xs
      (subst (λ (ys : List A). (each part n ys).Good xs) (append_assoc front (a ∷ back) (x ∷ [])) good.1))

  pub ascends : (n : ℕ) (before xs : List A) → (each part n before).Good xs → is_sorted R (map as_entry xs) ≡ true
  unfolding each
  ascends zero before xs good = ap (λ ys. is_sorted R (map as_entry ys)) good
  ascends (suc n) before [] good = absurd good
  ascends (suc n) before (x ∷ xs) good =
      and_from (below_all R (as_entry x).0 (map as_entry xs)) _ (below_rest n before x [] xs good.1)
      (ascends n (before ++ x ∷ []) xs good.1)

pub map_same : {A : Type 0} (xs : List A) → map (λ x. x) xs ≡ xs
map_same [] = refl
map_same (x ∷ xs) = ap (λ t. x ∷ t) (map_same xs)

pub map_units : {K : Type 0} (xs : List K) → map (λ (e : K × Unit {0}). e.0) (map (λ (k : K). (k, tt)) xs) ≡ xs
map_units [] = refl
map_units (x ∷ xs) = ap (λ t. x ∷ t) (map_units xs)
