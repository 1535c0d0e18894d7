-- The first of an object's instances, in ascending order, that passes a test is the lowest that does.
use Rattle.std.proofs.Common.{◌≡◌, ℕ, ◌<◌, Bool, true, false, cond, List, [], ◌∷◌, map, Option, None, Some, refl}
use Rattle.std.proofs.Common.{sym, ap, subst, ◌∙◌, arith, ◌↔◌}
use Rattle.std.proofs.Math.Dec.{T}
use Rattle.std.specs.Option.{is_some}
use Rattle.std.specs.List.{find as first_that}
use Rattle.std.specs.Ordering.{nat_cmp, eq_by_cmp}
use Rattle.std.specs.FinMap as map
use Rattle.std.specs.FinMap.{find, is_sorted}
use Rattle.std.specs.FinMap.Entries.{below_all}
use Rattle.std.proofs.lemmas.Bool.{false≢true}
use Rattle.lemmas.proofs.Tests.{T_first, T_second, true_from_T}
use Rattle.lemmas.proofs.Numbers.{no_tie_below, same_from_tie, tie_itself, below_from_lt}
use Rattle.object_defs.proofs.LookUps.{skipped}
use Rattle.instance_store.specs.Stored.{Stored, instances_of}
use Rattle.instance_store.proofs.InstanceLaws.{under, keys_of-under, find-under, sorted-under, place}
use Rattle.access_control.specs.Rights.{speaks_of, control_of}
use Rattle.access_control.specs.Laws.{is_there, IsLowest}

abbrev pub Numbers : Type 0
Numbers = List (ℕ × Unit {0})

abbrev pub Has : Numbers → ℕ → Type 0
Has ns n = is_some (find nat_cmp n ns) ≡ true

-- it is among the numbers, passes, and no lower one among them does
pub record Lowest (test : ℕ → Bool) (ns : Numbers) (j : ℕ) : Type 0 where
  pub there : Has ns j
  pub passes : test j ≡ true
  pub lowest : (k : ℕ) → k < j → Has ns k → test k ≡ false

passed_by : (m : ℕ) (e : ℕ × Unit {0}) (es : Numbers) → m < e.0 → find nat_cmp m (e ∷ es) ≡ find nat_cmp m es
passed_by m e es h = ap (λ b. cond b (Some e.1) (find nat_cmp m es)) (no_tie_below m e.0 h)

absent_below : (n m : ℕ) (ns : Numbers) → T (below_all nat_cmp n ns) → m < n → find nat_cmp m ns ≡ None
absent_below n m [] h l = refl
absent_below n m (e ∷ es) h l =
    let k : n < e.0 = below_from_lt n e.0 (true_from_T _ (T_first _ _ h)) in
    passed_by m e es (omega arith) ∙ absent_below n m es (T_second _ _ h) l

later : (b : Bool) (x : Unit {0}) (o : Option (Unit {0})) → is_some o ≡ true → is_some (cond b (Some x) o) ≡ true
later true x o h = refl
later false x o h = h

fails_at : (test : ℕ → Bool) (e : ℕ × Unit {0}) (es : Numbers) (k : ℕ) (b : Bool) → eq_by_cmp nat_cmp k e.0 ≡ b
    → test e.0 ≡ false → (Has es k → test k ≡ false) → is_some (cond b (Some e.1) (find nat_cmp k es)) ≡ true
    → test k ≡ false
fails_at test e es k true h fails rest has = ap test (same_from_tie k e.0 h) ∙ fails
fails_at test e es k false h fails rest has = rest has

found_head : (test : ℕ → Bool) (e : ℕ × Unit {0}) (es : Numbers) (j : ℕ) (b : Bool) → test e.0 ≡ b
    → T (is_sorted nat_cmp (e ∷ es)) → cond b (Some e.0) (first_that test (map (λ x. x.0) es)) ≡ Some j
    → (first_that test (map (λ x. x.0) es) ≡ Some j → Lowest test es j) → Lowest test (e ∷ es) j
found_head test e es j true passes sorted h rest =
    let here : e.0 ≡ j = cc in
    subst (Lowest test (e ∷ es)) here (record {
      there = ap (λ b. is_some (cond b (Some e.1) (find nat_cmp e.0 es))) (tie_itself e.0);
      passes = passes;
      lowest = λ k l has. absurd (false≢true (sym
          (ap is_some (passed_by k e es l ∙ absent_below e.0 k es (T_first _ _ sorted) l)) ∙ has));
    })
found_head test e es j false fails sorted h rest =
    let low = rest h in
    record {
      there = later (eq_by_cmp nat_cmp j e.0) e.1 (find nat_cmp j es) low.there;
      passes = low.passes;
      lowest = λ k l has. fails_at test e es k (eq_by_cmp nat_cmp k e.0) refl fails (low.lowest k l) has;
    }

pub found : (test : ℕ → Bool) (ns : Numbers) (j : ℕ) → T (is_sorted nat_cmp ns)
    → first_that test (map (λ x. x.0) ns) ≡ Some j → Lowest test ns j
found test [] j sorted h = let f : ⊥ = cc in absurd f
found test (e ∷ es) j sorted h = found_head test e es j (test e.0) refl sorted h (found test es j (T_second _ _ sorted))

pub missed : (test : ℕ → Bool) (ns : Numbers) → first_that test (map (λ x. x.0) ns) ≡ None → (k : ℕ) → Has ns k
    → test k ≡ false
missed test [] h k has = let f : ⊥ = cc in absurd f
missed test (e ∷ es) h k has =
    let parts = skipped (test e.0) e.0 (first_that test (map (λ x. x.0) es)) h in
    fails_at test e es k (eq_by_cmp nat_cmp k e.0) refl parts.0 (missed test es parts.1 k) has

-- the instances of object 2, by their numbers
numbers : Stored → Numbers
numbers stored = under 2 (map.entries stored.instances)

numbers_are : (stored : Stored) → instances_of stored 2 ≡ map (λ x. x.0) (numbers stored)
unfolding numbers
numbers_are stored = keys_of-under 2 (map.entries stored.instances)

has_is : (stored : Stored) (k : ℕ) → is_some (find nat_cmp k (numbers stored)) ≡ is_there stored k
unfolding numbers
has_is stored k =
    ap is_some (find-under 2 (map.entries stored.instances) k ∙ sym (map.get-entries stored.instances (place 2 k)))

sorted_are : (stored : Stored) → T (is_sorted nat_cmp (numbers stored))
unfolding numbers
sorted_are stored = sorted-under 2 (map.entries stored.instances) (map.entries_sorted stored.instances)

decides : (stored : Stored) (object instance j : ℕ) → control_of stored object instance ≡ Some j
    → IsLowest stored object instance j
decides stored object instance j h =
    let test = λ (k : ℕ). speaks_of stored k object instance in
    let low = found test (numbers stored) j (sorted_are stored) (sym (ap (first_that test) (numbers_are stored)) ∙ h) in
    record {
      there = sym (has_is stored j) ∙ low.there;
      speaks = low.passes;
      lowest = λ k l has. low.lowest k l (has_is stored k ∙ has);
    }

none_speaks : (stored : Stored) (object instance : ℕ) → control_of stored object instance ≡ None → (k : ℕ)
    → is_there stored k ≡ true → speaks_of stored k object instance ≡ false
none_speaks stored object instance h k has =
    let test = λ (k : ℕ). speaks_of stored k object instance in
    missed test (numbers stored) (sym (ap (first_that test) (numbers_are stored)) ∙ h) k (has_is stored k ∙ has)

only_one : (i j : ℕ) → (i < j → ⊥) → (j < i → ⊥) → i ≡ j
only_one i j h k = omega arith

is_it : (stored : Stored) (object instance j : ℕ) (r : Option ℕ) → control_of stored object instance ≡ r
    → IsLowest stored object instance j → r ≡ Some j
is_it stored object instance j None h low =
    absurd (false≢true (sym (none_speaks stored object instance h j low.there) ∙ low.speaks))
is_it stored object instance j (Some i) h low =
    let other = decides stored object instance i h in
    ap Some (only_one i j (λ l. false≢true (sym (low.lowest i l other.there) ∙ other.speaks))
    (λ l. false≢true (sym (other.lowest j l low.there) ∙ low.speaks)))

is_none : (stored : Stored) (object instance : ℕ) (r : Option ℕ) → control_of stored object instance ≡ r
    → ((k : ℕ) → is_there stored k ≡ true → speaks_of stored k object instance ≡ false) → r ≡ None
is_none stored object instance None h all = refl
is_none stored object instance (Some i) h all =
    let low = decides stored object instance i h in
    absurd (false≢true (sym (all i low.there) ∙ low.speaks))

pub lowest_decides : (stored : Stored) (object instance j : ℕ) → (control_of stored object instance ≡ Some j)
    ↔ IsLowest stored object instance j
lowest_decides stored object instance j = (decides stored object instance j, is_it stored object instance j _ refl)

pub none_decides : (stored : Stored) (object instance : ℕ) → (control_of stored object instance ≡ None)
    ↔ ((k : ℕ) → is_there stored k ≡ true → speaks_of stored k object instance ≡ false)
none_decides stored object instance = (none_speaks stored object instance, is_none stored object instance _ refl)
