-- A finite map of finite maps as one: what it has at a key, its entries, and how a change of an inner map changes it.
use Rattle.std.proofs.Common.{◌≡◌, Bool, true, false, cond, not, ◌&&◌, List, [], ◌∷◌, ◌++◌, Option, None, Some, refl}
use Rattle.std.proofs.Common.{sym, ap, subst, ◌∙◌, Ordering}
use Rattle.std.proofs.Math.Dec.{T}
use Rattle.std.specs.List.{filter, AllByRecursion}
use Rattle.std.specs.Ordering.{is_eq, is_lt, eq_by_cmp, ordering_then}
use Rattle.std.specs.declared.cmp.Ordering.TheVariants.{Less, Equal, Greater}
use Rattle.std.specs.Cmp.{IsTotalOrder, eq_by_cmp_equiv, tied_then, tied_itself}
use Rattle.std.specs.FinMap as map
use Rattle.std.specs.FinMap.{find, is_sorted}
use Rattle.std.specs.FinMap.Entries.{below_all, find-where_key, is_sorted-where_key}
use Rattle.std.proofs.lemmas.Map.Lookups.{CmpEqualImpliesEq}
use Rattle.std.proofs.lemmas.List.Elements.{filter-append}
use Rattle.lemmas.proofs.Tests.{T_both, T_first, T_second}
use Rattle.lemmas.proofs.Orders.{is_less, is_equal}
use Rattle.instance_store.specs.Nested.{block, flat_entries, joined_map}

-- how the joined keys go with the outer and the inner ones
pub record IsNesting {N K P : Type 0} (Q : N → N → Ordering) (S : K → K → Ordering) (R : P → P → Ordering)
    (up : N → K → P) (outer : P → N) (inner : P → K) : Type 0 where
  pub outer_total : IsTotalOrder Q
  pub outer_exact : CmpEqualImpliesEq Q
  pub inner_total : IsTotalOrder S
  pub inner_exact : CmpEqualImpliesEq S
  pub total : IsTotalOrder R
  pub exact : CmpEqualImpliesEq R
  pub back : (p : P) → up (outer p) (inner p) ≡ p
  pub outer_is : (n : N) (k : K) → outer (up n k) ≡ n
  pub inner_is : (n : N) (k : K) → inner (up n k) ≡ k
  pub order : (p q : P) → R p q ≡ ordering_then (Q (outer p) (outer q)) (S (inner p) (inner q))

-- ---- choices

or_else : {A : Type 0} → Option A → Option A → Option A
or_else None b = b
or_else (Some x) b = Some x

-- what an inner map has, where there is one
abbrev pub inside : {K V : Type 0} {S : K → K → Ordering} → Option (map.FinMap S V) → K → Option V
inside None k = None
inside (Some m) k = map.get m k

-- the entries of an inner map that pass a test, with their joined keys, where there is one
abbrev pub held_in : {N K P V : Type 0} {S : K → K → Ordering} → (N → K → P) → N → (K → Bool)
    → Option (map.FinMap S V) → List (P × V)
held_in up n t None = []
held_in up n t (Some m) = block up n (filter (λ e. t e.0) (map.entries m))

same_cond : {A : Type 0} (b : Bool) (x : A) → x ≡ cond b x x
same_cond true x = refl
same_cond false x = refl

within : {A : Type 0} (a b : Bool) (s f : Option A) → cond (a && b) s (cond a f None) ≡ cond a (cond b s f) None
within true b s f = refl
within false b s f = refl

first_of_two : {A : Type 0} (c : Bool) (v : A) (f g : Option A)
    → cond c (Some v) (or_else f g) ≡ or_else (cond c (Some v) f) g
unfolding or_else
first_of_two true v f g = refl
first_of_two false v f g = refl

or_none : {A : Type 0} (o : Option A) → or_else o None ≡ o
unfolding or_else
or_none None = refl
or_none (Some x) = refl

get_kept : {A B : Type 0} {W : A → A → Ordering} → CmpEqualImpliesEq W → (m : map.FinMap W B) (p : A → Bool) (q : A)
    → map.get (map.retain_keys m p) q ≡ cond (p q) (map.get m q) None
get_kept exact m p q = map.get-retain_keys m p q (λ x h. ap p (sym (exact q x h)))

-- the entries of the map of a list in order
pub entries-sorted : {K V : Type 0} {R : K → K → Ordering} → IsTotalOrder R → CmpEqualImpliesEq R → (es : List (K × V))
    → T (is_sorted R es) → map.entries (map.from_entries {R = R} es) ≡ es
entries-sorted {R = R} total exact es h =
    ap map.entries (map.same_map total exact (map.from_entries es) (map.from_sorted es)
    (λ q. map.get-from_entries total es q ∙ sym (map.get-from_sorted R es q h)))
    ∙ map.entries-from_sorted R es h

-- the entries that are left where some keys are
pub entries-kept : {K V : Type 0} {R : K → K → Ordering} → IsTotalOrder R → CmpEqualImpliesEq R → (m : map.FinMap R V)
    (p : K → Bool) → map.entries (map.retain_keys m p) ≡ filter (λ e. p e.0) (map.entries m)
entries-kept {R = R} total exact m p =
    let kept = filter (λ e. p e.0) (map.entries m) in
    ap map.entries (map.same_map total exact (map.retain_keys m p) (map.from_entries kept) (λ q.
    get_kept exact m p q
    ∙ ap (λ o. cond (p q) o None) (map.get-entries m q)
    ∙ sym (find-where_key R p q (λ x h. ap p (sym (exact q x h))) (map.entries m))
    ∙ sym (map.get-from_entries total kept q)))
    ∙ entries-sorted total exact kept (is_sorted-where_key R p (map.entries m) (map.entries_sorted m))

find_beside : {P V : Type 0} (R : P → P → Ordering) (xs ys : List (P × V)) (q : P)
    → find R q (xs ++ ys) ≡ or_else (find R q xs) (find R q ys)
unfolding or_else
find_beside R [] ys q = refl
find_beside R (x ∷ xs) ys q =
    ap (cond (eq_by_cmp R q x.0) (Some x.1)) (find_beside R xs ys q)
    ∙ first_of_two (eq_by_cmp R q x.0) x.1 (find R q xs) (find R q ys)

then_less : (a b : Ordering) → a ≡ Less → ordering_then a b ≡ Less
then_less Less b h = refl
then_less Equal b h = cc
then_less Greater b h = cc

module _ {N K P : Type 0} {Q : N → N → Ordering} {S : K → K → Ordering} {R : P → P → Ordering} {up : N → K → P}
    {outer : P → N} {inner : P → K} (law : IsNesting Q S R up outer inner) where
  tied : (q : P) (n : N) (k : K)
      → eq_by_cmp R q (up n k) ≡ (eq_by_cmp Q (outer q) n && eq_by_cmp S (inner q) k)
  tied q n k =
      ap is_eq (law.order q (up n k))
      ∙ sym (tied_then (Q (outer q) (outer (up n k))) (S (inner q) (inner (up n k))))
      ∙ ap (λ m. eq_by_cmp Q (outer q) m && eq_by_cmp S (inner q) (inner (up n k))) (law.outer_is n k)
      ∙ ap (λ j. eq_by_cmp Q (outer q) n && eq_by_cmp S (inner q) j) (law.inner_is n k)

  outer_same : (a n : N) → eq_by_cmp Q a n ≡ true → a ≡ n
  outer_same a n h = law.outer_exact a n (is_equal _ h)

  not_less : (a n m : N) → eq_by_cmp Q a n ≡ true → T (is_lt (Q n m)) → eq_by_cmp Q a m ≡ false
  not_less a n m h l = ap (λ k. is_eq (Q k m)) (outer_same a n h) ∙ ap is_eq (is_less _ l)

  same_block : (n : N) (k j : K) → S k j ≡ R (up n k) (up n j)
  same_block n k j =
      sym (law.order (up n k) (up n j)
      ∙ ap (λ a. ordering_then (Q a (outer (up n j))) (S (inner (up n k)) (inner (up n j)))) (law.outer_is n k)
      ∙ ap (λ b. ordering_then (Q n b) (S (inner (up n k)) (inner (up n j)))) (law.outer_is n j)
      ∙ ap (λ r. ordering_then r (S (inner (up n k)) (inner (up n j)))) (tied_itself law.outer_total n)
      ∙ ap (λ a. S a (inner (up n j))) (law.inner_is n k)
      ∙ ap (S k) (law.inner_is n j))

  higher : (n m a : N) → eq_by_cmp Q n m ≡ true → T (is_lt (Q m a)) → eq_by_cmp Q a n ≡ false
  higher n m a h l =
      (eq_by_cmp_equiv law.outer_total).symm a n ∙ not_less n m a h l

  at_up : (n : N) (t : K → Bool) (p : P → Bool) → ((q : P) → p q ≡ (eq_by_cmp Q (outer q) n && t (inner q))) → (m : N)
      (k : K) → p (up m k) ≡ (eq_by_cmp Q m n && t k)
  at_up n t p is m k =
      is (up m k)
      ∙ ap (λ a. eq_by_cmp Q a n && t (inner (up m k))) (law.outer_is m k)
      ∙ ap (λ j. eq_by_cmp Q m n && t j) (law.inner_is m k)

module _ {N K P V : Type 0} {Q : N → N → Ordering} {S : K → K → Ordering} {R : P → P → Ordering} {up : N → K → P}
    {outer : P → N} {inner : P → K} (law : IsNesting Q S R up outer inner) where
  -- ---- what the joined map has at a key

  find-block : (n : N) (es : List (K × V)) (q : P)
      → find R q (block up n es) ≡ cond (eq_by_cmp Q (outer q) n) (find S (inner q) es) None
  find-block n [] q = same_cond (eq_by_cmp Q (outer q) n) None
  find-block n (e ∷ es) q =
      ap (λ b. cond b (Some e.1) (find R q (block up n es))) (tied law q n e.0)
      ∙ ap (cond (eq_by_cmp Q (outer q) n && eq_by_cmp S (inner q) e.0) (Some e.1)) (find-block n es q)
      ∙ within (eq_by_cmp Q (outer q) n) (eq_by_cmp S (inner q) e.0) (Some e.1) (find S (inner q) es)

  find-below : (n : N) (es : List (N × map.FinMap S V)) (q : P) → T (below_all Q n es)
      → eq_by_cmp Q (outer q) n ≡ true → find R q (flat_entries up es) ≡ None
  unfolding or_else
  find-below n [] q h e = refl
  find-below n (f ∷ es) q h e =
      find_beside R (block up f.0 (map.entries f.1)) (flat_entries up es) q
      ∙ ap (λ o. or_else o (find R q (flat_entries up es))) (find-block f.0 (map.entries f.1) q
      ∙ ap (λ b. cond b (find S (inner q) (map.entries f.1)) None) (not_less law (outer q) n f.0 e (T_first _ _ h)))
      ∙ find-below n es q (T_second _ _ h) e

  chosen : (a : Bool) (m : map.FinMap S V) (o : Option (map.FinMap S V)) (k : K) (r : Option V)
      → (a ≡ true → r ≡ None) → r ≡ inside o k
      → or_else (cond a (map.get m k) None) r ≡ inside (cond a (Some m) o) k
  unfolding or_else
  chosen true m o k r h e = ap (or_else (map.get m k)) (h refl) ∙ or_none (map.get m k)
  chosen false m o k r h e = e

  find-flat_entries : (es : List (N × map.FinMap S V)) (q : P) → T (is_sorted Q es)
      → find R q (flat_entries up es) ≡ inside (find Q (outer q) es) (inner q)
  find-flat_entries [] q h = refl
  find-flat_entries (e ∷ es) q h =
      find_beside R (block up e.0 (map.entries e.1)) (flat_entries up es) q
      ∙ ap (λ o. or_else o (find R q (flat_entries up es))) (find-block e.0 (map.entries e.1) q
      ∙ ap (λ g. cond (eq_by_cmp Q (outer q) e.0) g None) (sym (map.get-entries e.1 (inner q))))
      ∙ chosen (eq_by_cmp Q (outer q) e.0) e.1 (find Q (outer q) es) (inner q) (find R q (flat_entries up es))
      (find-below e.0 es q (T_first _ _ h)) (find-flat_entries es q (T_second _ _ h))

  pub get-joined_map : (m : map.FinMap Q (map.FinMap S V)) (q : P)
      → map.get (joined_map {R = R} up m) q ≡ inside (map.get m (outer q)) (inner q)
  get-joined_map m q =
      map.get-from_entries law.total (flat_entries up (map.entries m)) q
      ∙ find-flat_entries (map.entries m) q (map.entries_sorted m)
      ∙ ap (λ o. inside o (inner q)) (sym (map.get-entries m (outer q)))

  -- at a key that is made of an outer and an inner one
  pub get-joined_map_up : (m : map.FinMap Q (map.FinMap S V)) (n : N) (k : K)
      → map.get (joined_map {R = R} up m) (up n k) ≡ inside (map.get m n) k
  get-joined_map_up m n k =
      get-joined_map m (up n k)
      ∙ ap (λ j. inside (map.get m j) (inner (up n k))) (law.outer_is n k)
      ∙ ap (inside (map.get m n)) (law.inner_is n k)

  -- ---- its entries

  -- all keys are of higher outer ones
  abbrev Above : N → List (P × V) → Type 0
  Above n ps = AllByRecursion (λ p. Q n (outer p.0) ≡ Less) ps

  above-block : (n m : N) (es : List (K × V)) (ps : List (P × V)) → Q n m ≡ Less → Above n ps
      → Above n (block up m es ++ ps)
  above-block n m [] ps h k = k
  above-block n m (e ∷ es) ps h k = (ap (Q n) (law.outer_is m e.0) ∙ h, above-block n m es ps h k)

  above-flat_entries : (n : N) (es : List (N × map.FinMap S V)) → T (below_all Q n es) → Above n (flat_entries up es)
  above-flat_entries n [] h = tt
  above-flat_entries n (e ∷ es) h =
      above-block n e.0 (map.entries e.1) (flat_entries up es) (is_less _ (T_first _ _ h))
      (above-flat_entries n es (T_second _ _ h))

  below-above : (n : N) (k : K) (ps : List (P × V)) → Above n ps → T (below_all R (up n k) ps)
  below-above n k [] h = tt
  below-above n k (p ∷ ps) h =
      let first_less : R (up n k) p.0 ≡ Less =
      law.order (up n k) p.0 ∙ then_less _ _ (ap (λ m. Q m (outer p.0)) (law.outer_is n k) ∙ h.0) in
      T_both _ _ (subst (λ r. T (is_lt r)) (sym first_less) tt) (below-above n k ps h.1)

  below-block : (n : N) (k : K) (es : List (K × V)) (ps : List (P × V)) → T (below_all S k es) → Above n ps
      → T (below_all R (up n k) (block up n es ++ ps))
  below-block n k [] ps h a = below-above n k ps a
  below-block n k (e ∷ es) ps h a =
      T_both _ _ (subst (λ r. T (is_lt r)) (same_block law n k e.0) (T_first _ _ h))
      (below-block n k es ps (T_second _ _ h) a)

  sorted-block : (n : N) (es : List (K × V)) (ps : List (P × V)) → T (is_sorted S es) → Above n ps → T (is_sorted R ps)
      → T (is_sorted R (block up n es ++ ps))
  sorted-block n [] ps h a s = s
  sorted-block n (e ∷ es) ps h a s =
      T_both _ _ (below-block n e.0 es ps (T_first _ _ h) a) (sorted-block n es ps (T_second _ _ h) a s)

  sorted-flat_entries : (es : List (N × map.FinMap S V)) → T (is_sorted Q es) → T (is_sorted R (flat_entries up es))
  sorted-flat_entries [] h = tt
  sorted-flat_entries (e ∷ es) h =
      sorted-block e.0 (map.entries e.1) (flat_entries up es) (map.entries_sorted e.1)
      (above-flat_entries e.0 es (T_first _ _ h))
      (sorted-flat_entries es (T_second _ _ h))

  pub entries-joined_map : (m : map.FinMap Q (map.FinMap S V))
      → map.entries (joined_map {R = R} up m) ≡ flat_entries up (map.entries m)
  entries-joined_map m = entries-sorted law.total law.exact (flat_entries up (map.entries m))
      (sorted-flat_entries (map.entries m) (map.entries_sorted m))

  -- ---- changes of an inner map

  put_at : (m : map.FinMap Q (map.FinMap S V)) (n : N) (h : map.FinMap S V) (w : map.FinMap R V)
      → ((k : K) → map.get h k ≡ map.get w (up n k)) → (q : P)
      → (eq_by_cmp Q (outer q) n ≡ false → map.get w q ≡ map.get (joined_map {R = R} up m) q) → (b : Bool)
      → eq_by_cmp Q (outer q) n ≡ b
      → inside (cond b (Some h) (map.get m (outer q))) (inner q) ≡ map.get w q
  put_at m n h w here q there true e =
      here (inner q) ∙ ap (λ a. map.get w (up a (inner q))) (sym (outer_same law (outer q) n e))
      ∙ ap (map.get w) (law.back q)
  put_at m n h w here q there false e = sym (get-joined_map m q) ∙ sym (there e)

  -- a map that has at the keys of one outer key what the new inner map has, and elsewhere what was there
  pub joined_map-put : (m : map.FinMap Q (map.FinMap S V)) (n : N) (h : map.FinMap S V) (w : map.FinMap R V)
      → ((k : K) → map.get h k ≡ map.get w (up n k))
      → ((q : P) → eq_by_cmp Q (outer q) n ≡ false → map.get w q ≡ map.get (joined_map {R = R} up m) q)
      → joined_map up (map.insert m n h) ≡ w
  joined_map-put m n h w here there = map.same_map law.total law.exact _ _ (λ q.
      get-joined_map (map.insert m n h) q
      ∙ ap (λ o. inside o (inner q)) (map.get-insert law.outer_total m n h (outer q))
      ∙ put_at m n h w here q (there q) (eq_by_cmp Q (outer q) n) refl)

  -- one value more in the inner map
  pub joined_map-insert : (m : map.FinMap Q (map.FinMap S V)) (n : N) (h : map.FinMap S V) (k : K) (v : V)
      → ((j : K) → map.get h j ≡ inside (map.get m n) j)
      → joined_map {R = R} up (map.insert m n (map.insert h k v)) ≡ map.insert (joined_map up m) (up n k) v
  joined_map-insert m n h k v held =
      joined_map-put m n (map.insert h k v) (map.insert (joined_map up m) (up n k) v)
      (λ j.
      map.get-insert law.inner_total h k v j
      ∙ ap (cond (eq_by_cmp S j k) (Some v)) (held j ∙ sym (get-joined_map_up m n j))
      ∙ ap (λ b. cond b (Some v) (map.get (joined_map {R = R} up m) (up n j))) (ap is_eq (same_block law n j k))
      ∙ sym (map.get-insert law.total (joined_map up m) (up n k) v (up n j)))
      (λ q e.
      map.get-insert law.total (joined_map up m) (up n k) v q
      ∙ ap (λ b. cond b (Some v) (map.get (joined_map {R = R} up m) q))
      (tied law q n k ∙ ap (λ b. b && eq_by_cmp S (inner q) k) e))

  -- some keys fewer in the inner map
  pub joined_map-kept : (m : map.FinMap Q (map.FinMap S V)) (n : N) (h : map.FinMap S V) (t : K → Bool) (p : P → Bool)
      → ((j : K) → map.get h j ≡ inside (map.get m n) j) → ((j : K) → t j ≡ p (up n j))
      → ((q : P) → eq_by_cmp Q (outer q) n ≡ false → p q ≡ true)
      → joined_map {R = R} up (map.insert m n (map.retain_keys h t)) ≡ map.retain_keys (joined_map up m) p
  joined_map-kept m n h t p held here there =
      joined_map-put m n (map.retain_keys h t) (map.retain_keys (joined_map up m) p)
      (λ j.
      get_kept law.inner_exact h t j
      ∙ ap (λ o. cond (t j) o None) (held j ∙ sym (get-joined_map_up m n j))
      ∙ ap (λ b. cond b (map.get (joined_map {R = R} up m) (up n j)) None) (here j)
      ∙ sym (get_kept law.exact (joined_map up m) p (up n j)))
      (λ q e.
      get_kept law.exact (joined_map up m) p q
      ∙ ap (λ b. cond b (map.get (joined_map {R = R} up m) q) None) (there q e))

  -- an inner map that holds nothing, where there was none
  pub joined_map-empty : (m : map.FinMap Q (map.FinMap S V)) (n : N) → map.get m n ≡ None
      → joined_map {R = R} up (map.insert m n map.empty) ≡ joined_map up m
  joined_map-empty m n h =
      joined_map-put m n map.empty (joined_map up m)
      (λ j. map.get-empty S j ∙ sym (get-joined_map_up m n j ∙ ap (λ o. inside o j) h)) (λ q e. refl)

  out_at : (o : Option (map.FinMap S V)) (k : K) (a : Bool)
      → inside (cond a None o) k ≡ cond (not a) (inside o k) None
  out_at o k true = refl
  out_at o k false = refl

  -- without an inner map
  pub joined_map-removed : (m : map.FinMap Q (map.FinMap S V)) (n : N) (p : P → Bool)
      → ((q : P) → p q ≡ not (eq_by_cmp Q (outer q) n))
      → joined_map {R = R} up (map.remove m n) ≡ map.retain_keys (joined_map up m) p
  joined_map-removed m n p h = map.same_map law.total law.exact _ _ (λ q.
      get-joined_map (map.remove m n) q
      ∙ ap (λ o. inside o (inner q)) (map.get-remove law.outer_total m n (outer q))
      ∙ out_at (map.get m (outer q)) (inner q) (eq_by_cmp Q (outer q) n)
      ∙ ap (λ b. cond b (inside (map.get m (outer q)) (inner q)) None) (sym (h q))
      ∙ ap (λ o. cond (p q) o None) (sym (get-joined_map m q))
      ∙ sym (get_kept law.exact (joined_map up m) p q))

  -- ---- the entries that pass a test

  module _ (n : N) (t : K → Bool) (p : P → Bool) (is : (q : P) → p q ≡ (eq_by_cmp Q (outer q) n && t (inner q))) where
    one_more : (a b : Bool) (x : P × V) (xs : List (P × V))
        → cond (a && b) (x ∷ cond a xs []) (cond a xs []) ≡ cond a (cond b (x ∷ xs) xs) []
    one_more true b x xs = refl
    one_more false b x xs = refl

    listed : (m : N) (b : Bool) (e : K × V) (es : List (K × V))
        → cond b ((up m e.0, e.1) ∷ block up m es) (block up m es) ≡ block up m (cond b (e ∷ es) es)
    listed m true e es = refl
    listed m false e es = refl

    filter-block : (m : N) (es : List (K × V))
        → filter (λ e. p e.0) (block up m es) ≡ cond (eq_by_cmp Q m n) (block up m (filter (λ e. t e.0) es)) []
    filter-block m [] = same_cond (eq_by_cmp Q m n) []
    filter-block m (e ∷ es) =
        let rest = filter (λ e. p e.0) (block up m es) in
        let kept = filter (λ e. t e.0) es in
        ap (λ b. cond b ((up m e.0, e.1) ∷ rest) rest) (at_up law n t p is m e.0)
        ∙ ap (λ r. cond (eq_by_cmp Q m n && t e.0) ((up m e.0, e.1) ∷ r) r) (filter-block m es)
        ∙ one_more (eq_by_cmp Q m n) (t e.0) (up m e.0, e.1) (block up m kept)
        ∙ ap (λ r. cond (eq_by_cmp Q m n) r []) (listed m (t e.0) e kept)

    filter-above : (m : N) (es : List (N × map.FinMap S V)) → eq_by_cmp Q n m ≡ true → T (below_all Q m es)
        → filter (λ e. p e.0) (flat_entries up es) ≡ []
    filter-above m [] h l = refl
    filter-above m (e ∷ es) h l =
        filter-append (λ e. p e.0) (block up e.0 (map.entries e.1)) (flat_entries up es)
        ∙ ap (λ r. r ++ filter (λ e. p e.0) (flat_entries up es)) (filter-block e.0 (map.entries e.1)
        ∙ ap (λ b. cond b (block up e.0 (filter (λ e. t e.0) (map.entries e.1))) [])
        (higher law n m e.0 h (T_first _ _ l)))
        ∙ filter-above m es h (T_second _ _ l)

    no_more : (xs : List (P × V)) → xs ++ [] ≡ xs
    no_more [] = refl
    no_more (x ∷ xs) = ap (λ ys. x ∷ ys) (no_more xs)

    picked : (e : N × map.FinMap S V) (es : List (N × map.FinMap S V)) (b : Bool) → eq_by_cmp Q n e.0 ≡ b
        → T (below_all Q e.0 es) → filter (λ e. p e.0) (flat_entries up es) ≡ held_in up n t (find Q n es)
        → cond b (block up e.0 (filter (λ e. t e.0) (map.entries e.1))) [] ++ filter (λ e. p e.0) (flat_entries up es)
        ≡ held_in up n t (cond b (Some e.1) (find Q n es))
    picked e es true h l rest =
        let kept = filter (λ e. t e.0) (map.entries e.1) in
        ap (λ r. block up e.0 kept ++ r) (filter-above e.0 es h l)
        ∙ no_more (block up e.0 kept)
        ∙ ap (λ m. block up m kept) (sym (outer_same law n e.0 h))
    picked e es false h l rest = rest

    filter-flat_entries : (es : List (N × map.FinMap S V)) → T (is_sorted Q es)
        → filter (λ e. p e.0) (flat_entries up es) ≡ held_in up n t (find Q n es)
    filter-flat_entries [] h = refl
    filter-flat_entries (e ∷ es) h =
        filter-append (λ e. p e.0) (block up e.0 (map.entries e.1)) (flat_entries up es)
        ∙ ap (λ r. r ++ filter (λ e. p e.0) (flat_entries up es)) (filter-block e.0 (map.entries e.1)
        ∙ ap (λ b. cond b (block up e.0 (filter (λ e. t e.0) (map.entries e.1))) [])
        ((eq_by_cmp_equiv law.outer_total).symm e.0 n))
        ∙ picked e es (eq_by_cmp Q n e.0) refl (T_first _ _ h) (filter-flat_entries es (T_second _ _ h))

    -- the entries of one outer key are those of its inner map
    pub filter-joined_map : (m : map.FinMap Q (map.FinMap S V))
        → filter (λ e. p e.0) (map.entries (joined_map {R = R} up m)) ≡ held_in up n t (map.get m n)
    filter-joined_map m =
        ap (filter (λ e. p e.0)) (entries-joined_map m)
        ∙ filter-flat_entries (map.entries m) (map.entries_sorted m)
        ∙ ap (held_in up n t) (sym (map.get-entries m n))

  module _ (g : N → Bool) where
    all_or_none : (n : N) (es : List (K × V))
        → filter (λ e. g (outer e.0)) (block up n es) ≡ cond (g n) (block up n es) []
    all_or_none n [] = same_cond (g n) []
    all_or_none n (e ∷ es) =
        let rest = filter (λ e. g (outer e.0)) (block up n es) in
        ap (λ m. cond (g m) ((up n e.0, e.1) ∷ rest) rest) (law.outer_is n e.0)
        ∙ ap (λ r. cond (g n) ((up n e.0, e.1) ∷ r) r) (all_or_none n es)
        ∙ elim (g n) as (λ b. cond b ((up n e.0, e.1) ∷ cond b (block up n es) []) (cond b (block up n es) [])
        ≡ cond b ((up n e.0, e.1) ∷ block up n es) []) [ true ↦ refl | false ↦ refl ]

    -- a test of the outer keys alone
    pub filter-outer : (es : List (N × map.FinMap S V))
        → filter (λ e. g (outer e.0)) (flat_entries up es) ≡ flat_entries up (filter (λ e. g e.0) es)
    filter-outer [] = refl
    filter-outer (e ∷ es) =
        filter-append (λ e. g (outer e.0)) (block up e.0 (map.entries e.1)) (flat_entries up es)
        ∙ ap (λ r. r ++ filter (λ e. g (outer e.0)) (flat_entries up es)) (all_or_none e.0 (map.entries e.1))
        ∙ ap (λ r. cond (g e.0) (block up e.0 (map.entries e.1)) [] ++ r) (filter-outer es)
        ∙ elim (g e.0) as (λ b. cond b (block up e.0 (map.entries e.1)) [] ++ flat_entries up (filter (λ e. g e.0) es)
        ≡ flat_entries up (cond b (e ∷ filter (λ e. g e.0) es) (filter (λ e. g e.0) es))) [ true ↦ refl | false ↦ refl ]
