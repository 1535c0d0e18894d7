-- Tables of items by ascending numbers: what one has at a number, and what changes it.
use Rattle.std.proofs.Common.{◌≡◌, ◌≢◌, ℕ, zero, suc, ◌<◌, ◌≤◌, ◌+◌, ◌-◌, Bool, true, false}
use Rattle.std.proofs.Common.{cond, not, eqb, List, [], ◌∷◌}
use Rattle.std.proofs.Common.{map, length, get_or, set, Option, None, Some, Ok, Err, refl, sym, ap, subst, ◌∙◌}
use Rattle.std.proofs.Common.{arith, inl, inr, option_map, is_some, IsSome}
use borrow.Follows.Closed.{read_of}
use Rattle.std.specs.Borrow.{MutBor}
use Rattle.std.specs.Option.{ghost_name_of, unwrap_or}
use Rattle.std.proofs.Math.Dec.{T}
use Rattle.std.specs.List.{filter, slice_get, zip, insert, remove, ItemBy}
use Rattle.std.specs.List.Sorted.{IsStrictlyIncreasing, IsBinarySearchResult}
use Rattle.std.specs.Ordering.{nat_cmp, eq_by_cmp}
use Rattle.std.specs.Cmp.{nat_cmp_total}
use Rattle.std.specs.FinMap as map
use Rattle.std.specs.FinMap.{find}
use Rattle.std.specs.FinMap.Entries.{find-where_key}
use Rattle.std.proofs.lemmas.Bool.{cases_eq, cases_lt, eq-eqb, ne_eqb}
use Rattle.std.proofs.lemmas.Bool.Decides.{nat_tests}
use Rattle.std.proofs.lemmas.List.Edits.{length-insert, get_or-insert_below, get_or-insert_at}
use Rattle.std.proofs.lemmas.List.Edits.{get_or-insert_above}
use Rattle.std.proofs.lemmas.List.Sorted.{searched}
use Rattle.std.proofs.lemmas.Map.Keys.{sorted_from_strictly_increasing, non_decreasing_from_sorted, below_from_sorted}
use Rattle.std.proofs.lemmas.Map.Made.{keys_of-zip}
use Rattle.std.proofs.lemmas.Option.{slice_get_past, slice_get-get_or}
use Rattle.std.proofs.lemmas.Map.Lookups.{exact_unsigned}
use Rattle.std.proofs.lemmas.Slice.Zip.{firsts-zip, seconds-zip}
use Rattle.lemmas.proofs.Numbers.{eqb_below}
use Rattle.object_defs.proofs.MapLaws.{entries-from_entries}
use Rattle.instance_store.specs.Table.{table_of, index_in, IsTable}

-- ---- comparisons of numbers, and choices

flipped : (n k : ℕ) → eq_by_cmp nat_cmp n k ≡ eqb k n
flipped n k = grind (arith, nat_tests)

alike : (q k n : ℕ) → eqb k n ≡ true → eq_by_cmp nat_cmp q k ≡ eq_by_cmp nat_cmp q n
alike q k n h = grind (arith, nat_tests)

apart : (q k n : ℕ) → eqb k n ≡ false → eq_by_cmp nat_cmp q k ≡ true → eq_by_cmp nat_cmp q n ≡ false
apart q k n h e = grind (arith, nat_tests)

over : {A : Type 0} (a b : Bool) (s x r : A) → a ≡ b → cond a s r ≡ cond b s (cond a x r)
over true true s x r h = refl
over true false s x r h = cc
over false true s x r h = cc
over false false s x r h = refl

beside : {A : Type 0} (a b : Bool) (s x r : A) → (a ≡ true → b ≡ false) → cond a x (cond b s r) ≡ cond b s (cond a x r)
beside true true s x r h = let e = h refl in cc
beside true false s x r h = refl
beside false b s x r h = refl

-- ---- ascending numbers

rises_to : (xs : List ℕ) → IsStrictlyIncreasing xs → (i j : ℕ) → i ≤ j → j < length xs → get_or xs i 0 ≤ get_or xs j 0
rises_to xs rises i j h inside = non_decreasing_from_sorted xs (sorted_from_strictly_increasing xs rises) i j 0 h inside

-- a number put at its place
increasing-insert : (xs : List ℕ) (i x : ℕ) → IsStrictlyIncreasing xs
    → IsBinarySearchResult (λ y. nat_cmp y x) xs (Err i) → IsStrictlyIncreasing (insert xs i x)
increasing-insert xs i x rises found k inside =
    let at = searched xs x (Err i) found (rises_to xs rises) in
    let long = length-insert xs i x at.0 in
    let low = λ (j : ℕ) (h : j < i). get_or-insert_below xs i x 0 j h at.0 in
    let here = λ (j : ℕ) (e : j ≡ i). subst (λ m. get_or (insert xs i x) m 0 ≡ x) (sym e)
    (get_or-insert_at xs i x 0 at.0) in
    let high = λ (j m : ℕ) (e : m ≡ j + 1) (h : i ≤ j). subst (λ n. get_or (insert xs i x) n 0 ≡ get_or xs j 0) (sym e)
    (get_or-insert_above xs i x 0 j h at.0) in
    elim (cases_lt (k + 1) i) [
      | inl l ↦ omega (arith, low k (omega arith), low (k + 1) l, rises k (omega arith))
      | inr g ↦ elim (cases_lt k i) [
        | inl l ↦ omega (arith, low k l, here (k + 1) (omega arith), at.1 k l)
        | inr h ↦ elim (cases_eq k i) [
          | inl e ↦ omega (arith, here k e, high k (k + 1) refl h, at.2 k h (omega (arith, long)))
          | inr n ↦
              let before : k ≡ (k - 1) + 1 = omega (arith, n) in
              let up : get_or xs (k - 1) 0 < get_or xs k 0 =
              subst (λ m. get_or xs (k - 1) 0 < get_or xs m 0) (sym before)
              (rises (k - 1) (omega (arith, long, before))) in
              omega (arith, high (k - 1) k before (omega (arith, n)), high k (k + 1) refl h, up)
        ]
      ]
    ]

-- ---- where a number is

index_found : (ns : List ℕ) (i n : ℕ) → i < length ns → get_or ns i 0 ≡ n → ((k : ℕ) → k < i → get_or ns k 0 < n)
    → index_in ns n ≡ i
index_found [] i n inside at low = absurd (omega (arith, inside))
index_found (x ∷ ns) zero n inside at low = ap (λ b. cond b 0 (suc (index_in ns n))) (eq-eqb x n at)
index_found (x ∷ ns) (suc i) n inside at low =
    ap (λ b. cond b 0 (suc (index_in ns n))) (ne_eqb x n (λ e. omega (arith, e, low 0 (omega arith))))
    ∙ ap suc (index_found ns i n (omega (arith, inside)) at (λ k h. low (suc k) (omega (arith, h))))

index_missing : (ns : List ℕ) (n : ℕ) → ((k : ℕ) → k < length ns → get_or ns k 0 ≢ n) → index_in ns n ≡ length ns
index_missing [] n out = refl
index_missing (x ∷ ns) n out =
    ap (λ b. cond b 0 (suc (index_in ns n))) (ne_eqb x n (out 0 (omega arith)))
    ∙ ap suc (index_missing ns n (λ k h. out (suc k) (omega (arith, h))))

-- what a search says of ascending numbers
pub lower : (ns : List ℕ) (i n : ℕ) → IsStrictlyIncreasing ns → i < length ns → get_or ns i 0 ≡ n → (k : ℕ) → k < i
    → get_or ns k 0 < n
lower ns i n rises inside at k h =
    subst (λ m. get_or ns k 0 < m) at
    (below_from_sorted ns k i 0 (sorted_from_strictly_increasing ns rises) h inside)

pub index-ok : (ns : List ℕ) (i n : ℕ) → IsStrictlyIncreasing ns → IsBinarySearchResult (λ y. nat_cmp y n) ns (Ok i)
    → i ≡ index_in ns n
index-ok ns i n rises found =
    let at = searched ns n (Ok i) found (rises_to ns rises) in
    sym (index_found ns i n at.0 at.1 (lower ns i n rises at.0 at.1))

pub missing : (ns : List ℕ) (i n : ℕ) → IsStrictlyIncreasing ns → IsBinarySearchResult (λ y. nat_cmp y n) ns (Err i)
    → (k : ℕ) → k < length ns → get_or ns k 0 ≢ n
missing ns i n rises found k inside e =
    let at = searched ns n (Err i) found (rises_to ns rises) in
    elim (cases_lt k i) [ inl l ↦ omega (arith, at.1 k l, e) | inr g ↦ omega (arith, at.2 k g inside, e) ]

pub index-err : (ns : List ℕ) (i n : ℕ) → IsStrictlyIncreasing ns → IsBinarySearchResult (λ y. nat_cmp y n) ns (Err i)
    → length ns ≡ index_in ns n
index-err ns i n rises found = sym (index_missing ns n (missing ns i n rises found))

-- ---- the entries

pub entries-table : {X : Type 0} (ns : List ℕ) (xs : List X) → IsTable ns xs → map.entries (table_of ns xs) ≡ zip ns xs
entries-table ns xs h =
    entries-from_entries nat_cmp_total exact_unsigned (zip ns xs)
    (rw (keys_of-zip ns xs h.paired) (sorted_from_strictly_increasing ns h.ascending))

pub keys-table : {X : Type 0} (ns : List ℕ) (xs : List X) → IsTable ns xs → map.keys (table_of ns xs) ≡ ns
keys-table ns xs h = ap (map (λ e. e.0)) (entries-table ns xs h) ∙ firsts-zip ns xs h.paired

pub values-table : {X : Type 0} (ns : List ℕ) (xs : List X) → IsTable ns xs → map.values (table_of ns xs) ≡ xs
values-table ns xs h = ap (map (λ e. e.1)) (entries-table ns xs h) ∙ seconds-zip ns xs h.paired

-- ---- what a table has at a number

found_at : {X : Type 0} (ns : List ℕ) (xs : List X) (n : ℕ) → length xs ≡ length ns
    → slice_get xs (index_in ns n) ≡ find nat_cmp n (zip ns xs)
found_at [] [] n h = refl
found_at [] (x ∷ xs) n h = absurd (omega (arith, h))
found_at (k ∷ ns) [] n h = absurd (omega (arith, h))
found_at (k ∷ ns) (x ∷ xs) n h =
    elim (eqb k n) as (λ b. slice_get (x ∷ xs) (cond b 0 (suc (index_in ns n)))
    ≡ cond b (Some x) (find nat_cmp n (zip ns xs))) [
      | true ↦ refl
      | false ↦ found_at ns xs n (omega (arith, h))
    ]
    ∙ ap (λ b. cond b (Some x) (find nat_cmp n (zip ns xs))) (sym (flipped n k))

pub get-table : {X : Type 0} (ns : List ℕ) (xs : List X) (n : ℕ) → length xs ≡ length ns
    → slice_get xs (index_in ns n) ≡ map.get (table_of ns xs) n
get-table ns xs n h = found_at ns xs n h ∙ sym (map.get-from_entries nat_cmp_total (zip ns xs) n)

-- ---- changes

-- entries in which one number has another item, or none
one_put : {X : Type 0} (es fs : List (ℕ × X)) (n : ℕ) (v : X)
    → ((q : ℕ) → find nat_cmp q fs ≡ cond (eq_by_cmp nat_cmp q n) (Some v) (find nat_cmp q es))
    → map.from_entries {R = nat_cmp} fs ≡ map.insert (map.from_entries es) n v
one_put es fs n v h = map.same_map nat_cmp_total exact_unsigned _ _ (λ q.
    map.get-from_entries nat_cmp_total fs q ∙ h q
    ∙ sym (map.get-insert nat_cmp_total (map.from_entries es) n v q
    ∙ ap (cond (eq_by_cmp nat_cmp q n) (Some v)) (map.get-from_entries nat_cmp_total es q)))

one_out : {X : Type 0} (es fs : List (ℕ × X)) (n : ℕ)
    → ((q : ℕ) → find nat_cmp q fs ≡ cond (eq_by_cmp nat_cmp q n) None (find nat_cmp q es))
    → map.from_entries {R = nat_cmp} fs ≡ map.remove (map.from_entries es) n
one_out es fs n h = map.same_map nat_cmp_total exact_unsigned _ _ (λ q.
    map.get-from_entries nat_cmp_total fs q ∙ h q
    ∙ sym (map.get-remove nat_cmp_total (map.from_entries es) n q
    ∙ ap (cond (eq_by_cmp nat_cmp q n) None) (map.get-from_entries nat_cmp_total es q)))

found_set : {X : Type 0} (ns : List ℕ) (xs : List X) (n : ℕ) (v : X) (q : ℕ) → length xs ≡ length ns
    → index_in ns n < length ns
    → find nat_cmp q (zip ns (set xs (index_in ns n) v))
    ≡ cond (eq_by_cmp nat_cmp q n) (Some v) (find nat_cmp q (zip ns xs))
found_set [] xs n v q h inside = absurd (omega (arith, inside))
found_set (k ∷ ns) [] n v q h inside = absurd (omega (arith, h))
found_set (k ∷ ns) (x ∷ xs) n v q h inside =
    let i = index_in ns n in
    let rest = find nat_cmp q (zip ns xs) in
    elim (eqb k n) as (λ b. eqb k n ≡ b → cond b 0 (suc i) < suc (length ns)
    → find nat_cmp q (zip (k ∷ ns) (set (x ∷ xs) (cond b 0 (suc i)) v))
    ≡ cond (eq_by_cmp nat_cmp q n) (Some v) (cond (eq_by_cmp nat_cmp q k) (Some x) rest)) [
      | true ↦ λ e l. over (eq_by_cmp nat_cmp q k) (eq_by_cmp nat_cmp q n) (Some v) (Some x) rest (alike q k n e)
      | false ↦ λ e l.
          ap (cond (eq_by_cmp nat_cmp q k) (Some x)) (found_set ns xs n v q (omega (arith, h)) (omega (arith, l)))
          ∙ beside (eq_by_cmp nat_cmp q k) (eq_by_cmp nat_cmp q n) (Some v) (Some x) rest (apart q k n e)
    ] refl inside

-- another item at a number that has one
pub table-set : {X : Type 0} (ns : List ℕ) (xs : List X) (n : ℕ) (v : X) → length xs ≡ length ns
    → index_in ns n < length ns
    → table_of ns (set xs (index_in ns n) v) ≡ map.insert (table_of ns xs) n v
table-set ns xs n v h inside =
    one_put (zip ns xs) (zip ns (set xs (index_in ns n) v)) n v (λ q. found_set ns xs n v q h inside)

found_insert : {X : Type 0} (ns : List ℕ) (xs : List X) (i n : ℕ) (v : X) (q : ℕ) → length xs ≡ length ns
    → i ≤ length ns → ((k : ℕ) → k < i → get_or ns k 0 < n)
    → find nat_cmp q (zip (insert ns i n) (insert xs i v))
    ≡ cond (eq_by_cmp nat_cmp q n) (Some v) (find nat_cmp q (zip ns xs))
found_insert [] [] zero n v q h inside low = refl
found_insert [] [] (suc i) n v q h inside low = absurd (omega (arith, inside))
found_insert [] (x ∷ xs) i n v q h inside low = absurd (omega (arith, h))
found_insert (k ∷ ns) [] i n v q h inside low = absurd (omega (arith, h))
found_insert (k ∷ ns) (x ∷ xs) zero n v q h inside low = refl
found_insert (k ∷ ns) (x ∷ xs) (suc i) n v q h inside low =
    ap (cond (eq_by_cmp nat_cmp q k) (Some x)) (found_insert ns xs i n v q (omega (arith, h)) (omega (arith, inside))
    (λ j l. low (suc j) (omega (arith, l))))
    ∙ beside (eq_by_cmp nat_cmp q k) (eq_by_cmp nat_cmp q n) (Some v) (Some x) (find nat_cmp q (zip ns xs))
    (apart q k n (eqb_below k n (low 0 (omega arith))))

-- an item at a number that has none
pub table-insert : {X : Type 0} (ns : List ℕ) (xs : List X) (i n : ℕ) (v : X) → IsTable ns xs
    → IsBinarySearchResult (λ y. nat_cmp y n) ns (Err i)
    → table_of (insert ns i n) (insert xs i v) ≡ map.insert (table_of ns xs) n v
table-insert ns xs i n v h found =
    let at = searched ns n (Err i) found (rises_to ns h.ascending) in
    one_put (zip ns xs) (zip (insert ns i n) (insert xs i v)) n v
    (λ q. found_insert ns xs i n v q h.paired at.0 at.1)

pub IsTable-insert : {X : Type 0} (ns : List ℕ) (xs : List X) (i n : ℕ) (v : X) → IsTable ns xs
    → IsBinarySearchResult (λ y. nat_cmp y n) ns (Err i)
    → IsTable (insert ns i n) (insert xs i v)
IsTable-insert ns xs i n v h found =
    let at = searched ns n (Err i) found (rises_to ns h.ascending) in
    record {
      ascending = increasing-insert ns i n h.ascending found;
      paired = length-insert xs i v (rw h.paired at.0) ∙ ap (λ k. k + 1) h.paired ∙ sym (length-insert ns i n at.0);
    }

others_kept : {X : Type 0} (ns : List ℕ) (xs : List X) (n : ℕ) → ((k : ℕ) → k < length ns → get_or ns k 0 ≢ n)
    → filter (λ e. not (eqb e.0 n)) (zip ns xs) ≡ zip ns xs
others_kept [] xs n out = refl
others_kept (k ∷ ns) [] n out = refl
others_kept (k ∷ ns) (x ∷ xs) n out =
    let rest = filter (λ e. not (eqb e.0 n)) (zip ns xs) in
    ap (λ b. cond (not b) ((k, x) ∷ rest) rest) (ne_eqb k n (out 0 (omega arith)))
    ∙ ap (λ t. (k, x) ∷ t) (others_kept ns xs n (λ j l. out (suc j) (omega (arith, l))))

removed : {X : Type 0} (ns : List ℕ) (xs : List X) (i n : ℕ) → length xs ≡ length ns → i < length ns
    → get_or ns i 0 ≡ n → ((k : ℕ) → k < length ns → k ≢ i → get_or ns k 0 ≢ n)
    → zip (remove ns i) (remove xs i) ≡ filter (λ e. not (eqb e.0 n)) (zip ns xs)
removed [] xs i n h inside at out = absurd (omega (arith, inside))
removed (k ∷ ns) [] i n h inside at out = absurd (omega (arith, h))
removed (k ∷ ns) (x ∷ xs) zero n h inside at out =
    let rest = filter (λ e. not (eqb e.0 n)) (zip ns xs) in
    sym (ap (λ b. cond (not b) ((k, x) ∷ rest) rest) (eq-eqb k n at)
    ∙ others_kept ns xs n (λ j l. out (suc j) (omega (arith, l)) (λ e. omega (arith, e))))
removed (k ∷ ns) (x ∷ xs) (suc i) n h inside at out =
    let rest = filter (λ e. not (eqb e.0 n)) (zip ns xs) in
    ap (λ t. (k, x) ∷ t) (removed ns xs i n (omega (arith, h)) (omega (arith, inside)) at
    (λ j l e. out (suc j) (omega (arith, l)) (λ f. e (omega (arith, f)))))
    ∙ sym (ap (λ b. cond (not b) ((k, x) ∷ rest) rest) (ne_eqb k n (out 0 (omega arith) (λ e. omega (arith, e)))))

-- the other numbers differ from the one found
others_differ : (ns : List ℕ) (i n : ℕ) → IsStrictlyIncreasing ns → i < length ns → get_or ns i 0 ≡ n → (k : ℕ)
    → k < length ns → k ≢ i → get_or ns k 0 ≢ n
others_differ ns i n rises inside at k within other e =
    elim (cases_lt k i) [
      | inl l ↦ omega (arith, lower ns i n rises inside at k l, e)
      | inr g ↦
          let l : i < k = omega (arith, g, other) in
          omega (arith, below_from_sorted ns i k 0 (sorted_from_strictly_increasing ns rises) l within, at, e)
    ]

turned : {A : Type 0} (a b : Bool) (x y : A) → a ≡ b → cond (not a) x y ≡ cond b y x
turned true true x y h = refl
turned true false x y h = cc
turned false true x y h = cc
turned false false x y h = refl

-- without the item of a number
pub table-remove : {X : Type 0} (ns : List ℕ) (xs : List X) (i n : ℕ) → IsTable ns xs
    → IsBinarySearchResult (λ y. nat_cmp y n) ns (Ok i)
    → table_of (remove ns i) (remove xs i) ≡ map.remove (table_of ns xs) n
table-remove ns xs i n h found =
    let at = searched ns n (Ok i) found (rises_to ns h.ascending) in
    one_out (zip ns xs) (zip (remove ns i) (remove xs i)) n (λ q.
    ap (find nat_cmp q) (removed ns xs i n h.paired at.0 at.1 (others_differ ns i n h.ascending at.0 at.1))
    ∙ find-where_key nat_cmp (λ k. not (eqb k n)) q (λ k e. ap (λ m. not (eqb m n)) (sym (exact_unsigned q k e)))
    (zip ns xs)
    ∙ turned (eqb q n) (eq_by_cmp nat_cmp q n) (find nat_cmp q (zip ns xs)) None (equal_tests q n))
  where
    equal_tests : (q n : ℕ) → eqb q n ≡ eq_by_cmp nat_cmp q n
    equal_tests q n = grind (arith, nat_tests)

-- without an item that is not there
pub table-absent : {X : Type 0} (ns : List ℕ) (xs : List X) (i n : ℕ) → IsTable ns xs
    → IsBinarySearchResult (λ y. nat_cmp y n) ns (Err i)
    → table_of ns xs ≡ map.remove (table_of ns xs) n
table-absent ns xs i n h found =
    one_out (zip ns xs) (zip ns xs) n (λ q.
    ap (find nat_cmp q) (sym (others_kept ns xs n (missing ns i n h.ascending found)))
    ∙ find-where_key nat_cmp (λ k. not (eqb k n)) q (λ k e. ap (λ m. not (eqb m n)) (sym (exact_unsigned q k e)))
    (zip ns xs)
    ∙ turned (eqb q n) (eq_by_cmp nat_cmp q n) (find nat_cmp q (zip ns xs)) None (equal_tests q n))
  where
    equal_tests : (q n : ℕ) → eqb q n ≡ eq_by_cmp nat_cmp q n
    equal_tests q n = grind (arith, nat_tests)

-- nothing is at a number that a search does not find
past_end : {X : Type 0} (xs : List X) → slice_get xs (length xs) ≡ None
past_end [] = refl
past_end (x ∷ xs) = past_end xs

pub none-table : {X : Type 0} (ns : List ℕ) (xs : List X) (i n : ℕ) → IsTable ns xs
    → IsBinarySearchResult (λ y. nat_cmp y n) ns (Err i)
    → map.get (table_of ns xs) n ≡ None
none-table ns xs i n h found =
    sym (get-table ns xs n h.paired)
    ∙ ap (slice_get xs) (sym (index-err ns i n h.ascending found) ∙ sym h.paired)
    ∙ past_end xs

-- ---- what a borrowed item shows

pub item_at : {B X : Type 0} (now : B → X) (xs : List X) (i : ℕ) (r : Option B) → ItemBy now xs i i r
    → option_map now r ≡ slice_get xs i
item_at now xs i None h = sym (slice_get_past xs i h.3)
item_at now xs i (Some x) h = ap Some h.1 ∙ sym (slice_get-get_or xs i (now x) h.3.0)

pub item_within : {B X : Type 0} (now : B → X) (xs : List X) (i : ℕ) (r : Option B) → ItemBy now xs i i r → IsSome r
    → i < length xs
item_within now xs i None h some = absurd (none_is_some some)
  where
    none_is_some : false ≡ true → ⊥
    none_is_some e = grind (arith, e)
item_within now xs i (Some x) h some = h.3.0

pub read_same : {X D : Type 0} (r : Option (MutBor X)) (F G : X → D) (v : D) → (IsSome r → (w : X) → F w ≡ G w)
    → read_of (ghost_name_of r) F v ≡ read_of (ghost_name_of r) G v
read_same None F G v h = refl
read_same (Some x) F G v h = λ i. inl (x.ghost_name, λ w. h refl w i)

-- a number that a search finds has an item
pub some-table : {X : Type 0} (ns : List ℕ) (xs : List X) (i n : ℕ) → IsTable ns xs
    → IsBinarySearchResult (λ y. nat_cmp y n) ns (Ok i) → i < length xs → map.contains_key (table_of ns xs) n ≡ true
some-table ns xs i n h found inside =
    ap is_some (sym (get-table ns xs n h.paired) ∙ ap (slice_get xs) (sym (index-ok ns i n h.ascending found)))
    ∙ there xs i inside
  where
    there : {X : Type 0} (xs : List X) (i : ℕ) → i < length xs → is_some (slice_get xs i) ≡ true
    there [] i h = absurd (omega (arith, h))
    there (x ∷ xs) zero h = refl
    there (x ∷ xs) (suc i) h = there xs i (omega (arith, h))

-- an entry, of which the number and the item are known
pub entry_at : {X : Type 0} (es : List (ℕ × X)) (i n : ℕ) (x : X) → slice_get (map (λ e. e.0) es) i ≡ Some n
    → slice_get (map (λ e. e.1) es) i ≡ Some x → slice_get es i ≡ Some (n, x)
entry_at [] i n x g h = absurd (subst T (ap is_some (sym g)) tt)
entry_at (e ∷ es) zero n x g h = λ i. Some (ap (λ o. unwrap_or o n) g i, ap (λ o. unwrap_or o x) h i)
entry_at (e ∷ es) (suc i) n x g h = entry_at es i n x g h
