-- The requests of an index that are recalled, and how one of them is found.
use Rattle.std.proofs.Common.{◌≡◌, ℕ, ◌<◌, ◌==◌, Bool, true, false, true≢false, cond, ◌&&◌, not, List, [], ◌∷◌}
use Rattle.std.proofs.Common.{Option, None, Some, filter, find, ◌||◌, refl, sym, ap, ◌∙◌, arith}
use Rattle.std.specs.List.{AllByRecursion, IsDistinct, list_any}
use Rattle.std.specs.Map.{keys_of, values_of}
use Rattle.std.proofs.lemmas.Bool.Decides.{nat_tests}
use Rattle.std.proofs.lemmas.Option.{none-some, same_Some}
use Rattle.coap_codec.specs.Message.{kind_number}
use Rattle.coap_codec.specs.declared.kind.Kind.{Kind}
use Rattle.device_machine.specs.State.{is_live}
use Rattle.device_machine.specs.Records.{HasOwnKey, first_end, has_key, is_recalled, is_same_key, key_number, number_of}
use Rattle.device_machine.specs.declared.recorded.Recorded.{Recorded}
use Rattle.device_machine.specs.declared.records.RecordKey.{RecordKey}
use Rattle.device_machine.proofs.Keyed.{none_ends}

-- ---- filters

pub filter-true : {X : Type 0} (q : X → Bool) (x : X) (xs : List X) → q x ≡ true → filter q (x ∷ xs) ≡ x ∷ filter q xs
filter-true q x xs e = λ j. cond (e j) (x ∷ filter q xs) (filter q xs)

pub filter-false : {X : Type 0} (q : X → Bool) (x : X) (xs : List X) → q x ≡ false → filter q (x ∷ xs) ≡ filter q xs
filter-false q x xs e = λ j. cond (e j) (x ∷ filter q xs) (filter q xs)

filter-both : {X : Type 0} (p q : X → Bool) (xs : List X) → filter p (filter q xs) ≡ filter (λ x. p x && q x) xs
filter-both p q [] = refl
filter-both p q (x ∷ xs) =
    let rest : filter p (filter q xs) ≡ filter (λ y. p y && q y) xs = filter-both p q xs in
    elim (q x) as (λ c. filter p (cond c (x ∷ filter q xs) (filter q xs))
    ≡ cond (p x && c) (x ∷ filter (λ y. p y && q y) xs) (filter (λ y. p y && q y) xs)) [
      | true ↦ elim (p x) as (λ b. cond b (x ∷ filter p (filter q xs)) (filter p (filter q xs))
          ≡ cond (b && true) (x ∷ filter (λ y. p y && q y) xs) (filter (λ y. p y && q y) xs)) [
            | true ↦ ap (λ t. x ∷ t) rest
            | false ↦ rest
          ]
      | false ↦ elim (p x) as (λ b. filter p (filter q xs)
          ≡ cond (b && false) (x ∷ filter (λ y. p y && q y) xs) (filter (λ y. p y && q y) xs)) [
            | true ↦ rest
            | false ↦ rest
          ]
    ]

and_turned : (a b : Bool) → (a && b) ≡ (b && a)
and_turned true true = refl
and_turned true false = refl
and_turned false true = refl
and_turned false false = refl

-- where the first passes all, it may be left out
filter-needless : {X : Type 0} (p q : X → Bool) (xs : List X) → filter p xs ≡ xs → filter q xs ≡ filter p (filter q xs)
filter-needless p q xs all =
    sym (filter-both p q xs ∙ (λ j. filter (λ x. and_turned (p x) (q x) j) xs) ∙ sym (filter-both q p xs)
    ∙ ap (filter q) all)

-- of those that are recalled, only those that live are recalled from then on
pub recalled_later : (ended : Option ℕ) (clock second : ℕ)
    → ((r : Recorded) → is_recalled (Some second) r ≡ (is_live clock r && is_recalled ended r)) → (rs : List Recorded)
    → filter (λ r. is_recalled (Some second) r) rs
    ≡ filter (λ r. is_live clock r) (filter (λ r. is_recalled ended r) rs)
recalled_later ended clock second both rs =
    (λ j. filter (λ r. both r j) rs) ∙ sym (filter-both (λ r. is_live clock r) (λ r. is_recalled ended r) rs)

-- before the first ends, those that are recalled all live
pub recalled_still : (ended : Option ℕ) (clock : ℕ) (rs : List Recorded) → clock < first_end rs
    → filter (λ r. is_recalled ended r) rs ≡ filter (λ r. is_live clock r) (filter (λ r. is_recalled ended r) rs)
recalled_still ended clock rs before =
    filter-needless (λ r. is_live clock r) (λ r. is_recalled ended r) rs (none_ends clock rs before)

all_recalled : (rs : List Recorded) → filter (λ r. is_recalled None r) rs ≡ rs
all_recalled [] = refl
all_recalled (r ∷ rs) = ap (λ t. r ∷ t) (all_recalled rs)

-- where none has ended, all are recalled
pub recalled_all : (ended : Option ℕ) (rs : List Recorded) → ended ≡ None → filter (λ r. is_recalled ended r) rs ≡ rs
recalled_all ended rs none = (λ j. filter (λ r. is_recalled (none j) r) rs) ∙ all_recalled rs

-- ---- whether any passes

filter-none : {X : Type 0} (p : X → Bool) (xs : List X) → list_any p xs ≡ false → filter p xs ≡ []
filter-none p [] h = refl
filter-none p (x ∷ xs) h = by (p x) refl (filter-none p xs)
  where
    by : (b : Bool) → p x ≡ b → (list_any p xs ≡ false → filter p xs ≡ []) → filter p (x ∷ xs) ≡ []
    by true e rest = absurd (true≢false (sym (ap (λ c. c || list_any p xs) e) ∙ h))
    by false e rest = filter-false p x xs e ∙ rest (sym (ap (λ c. c || list_any p xs) e) ∙ h)

filter-some : {X : Type 0} (p : X → Bool) (xs : List X) → list_any p xs ≡ true → filter p xs ≡ [] → ⊥
filter-some p [] h none = absurd (true≢false (sym h))
filter-some p (x ∷ xs) h none = by (p x) refl (filter-some p xs)
  where
    by : (b : Bool) → p x ≡ b → (list_any p xs ≡ true → filter p xs ≡ [] → ⊥) → ⊥
    by true e rest = let first : x ∷ filter p xs ≡ [] = sym (filter-true p x xs e) ∙ none in cc
    by false e rest = rest (sym (ap (λ c. c || list_any p xs) e) ∙ h) (sym (filter-false p x xs e) ∙ none)

pub filter-empty : {X : Type 0} (p : X → Bool) (xs : List X) (b : Bool) → b ≡ list_any p xs → not b ≡ true
    → filter p xs ≡ []
filter-empty p xs true is h = absurd (true≢false (sym h))
filter-empty p xs false is h = filter-none p xs (sym is)

pub filter-nonempty : {X : Type 0} (p : X → Bool) (xs : List X) (b : Bool) → b ≡ list_any p xs → not b ≡ false
    → filter p xs ≡ [] → ⊥
filter-nonempty p xs true is h = filter-some p xs (sym is)
filter-nonempty p xs false is h = absurd (true≢false h)

-- ---- one that is found

pub find-true : {X : Type 0} (p : X → Bool) (x : X) (xs : List X) → p x ≡ true → find p (x ∷ xs) ≡ Some x
find-true p x xs e = λ j. cond (e j) (Some x) (find p xs)

pub find-false : {X : Type 0} (p : X → Bool) (x : X) (xs : List X) → p x ≡ false → find p (x ∷ xs) ≡ find p xs
find-false p x xs e = λ j. cond (e j) (Some x) (find p xs)

-- where a test fails at the first, it finds among those that pass another what it finds among the rest of them
find-past : {X : Type 0} (p q : X → Bool) (x : X) (xs : List X) → p x ≡ false
    → find p (filter q (x ∷ xs)) ≡ find p (filter q xs)
find-past p q x xs e = by (q x) refl
  where
    by : (b : Bool) → q x ≡ b → find p (filter q (x ∷ xs)) ≡ find p (filter q xs)
    by true f = ap (find p) (filter-true q x xs f) ∙ find-false p x (filter q xs) e
    by false f = ap (find p) (filter-false q x xs f)

-- what is found of all and passes is found of those that pass
pub found-kept : {X : Type 0} (p q : X → Bool) (xs : List X) (x : X) → find p xs ≡ Some x → q x ≡ true
    → find p (filter q xs) ≡ Some x
found-kept p q [] x h keeps = absurd (none-some x h)
found-kept p q (y ∷ ys) x h keeps = by (p y) refl (λ found. found-kept p q ys x found keeps)
  where
    by : (b : Bool) → p y ≡ b → (find p ys ≡ Some x → find p (filter q ys) ≡ Some x)
        → find p (filter q (y ∷ ys)) ≡ Some x
    by true e rest =
        let same : y ≡ x = same_Some y x (sym (find-true p y ys e) ∙ h) in
        ap (find p) (filter-true q y ys (ap q same ∙ keeps)) ∙ find-true p y (filter q ys) e ∙ ap Some same
    by false e rest = find-past p q y ys e ∙ rest (sym (find-false p y ys e) ∙ h)

-- what is not found of all is not found of those that pass
pub found-none : {X : Type 0} (p q : X → Bool) (xs : List X) → find p xs ≡ None → find p (filter q xs) ≡ None
found-none p q [] h = refl
found-none p q (y ∷ ys) h = by (p y) refl (found-none p q ys)
  where
    by : (b : Bool) → p y ≡ b → (find p ys ≡ None → find p (filter q ys) ≡ None) → find p (filter q (y ∷ ys)) ≡ None
    by true e rest = absurd (none-some y (sym h ∙ find-true p y ys e))
    by false e rest = find-past p q y ys e ∙ rest (sym (find-false p y ys e) ∙ h)

-- a request of another key than one that has the key has not
other : (s m n a b c x y z p q : ℕ) → p ≡ key_number c a b → q ≡ key_number z x y
    → (a == s && (b == m && c == n)) ≡ true → (p == q) ≡ false → (x == s && (y == m && z == n)) ≡ false
other s m n a b c x y z p q is so has differs = grind (arith, nat_tests)

-- none of the others has the key of the first
pub others : (server : ℕ) (kind : Kind) (mid : ℕ) (e : RecordKey × Recorded) (es : List (RecordKey × Recorded))
    → HasOwnKey e → AllByRecursion HasOwnKey es → has_key server kind mid e.1 ≡ true
    → AllByRecursion (λ k. is_same_key e.0 k ≡ false) (keys_of es)
    → find (has_key server kind mid) (values_of es) ≡ None
others server kind mid e [] own owns has differ = refl
others server kind mid e (y ∷ es) own owns has differ =
    find-false (has_key server kind mid) y.1 (values_of es)
    (other server mid (kind_number kind) e.1.server e.1.mid (kind_number e.1.kind)
    y.1.server y.1.mid (kind_number y.1.kind) (number_of e.0) (number_of y.0) own.number owns.0.number has differ.0)
    ∙ others server kind mid e es own owns.1 has differ.1

-- where what is found of all fails, none is found of those that pass
pub found-lost : (server : ℕ) (kind : Kind) (mid : ℕ) (q : Recorded → Bool) (es : List (RecordKey × Recorded))
    (r : Recorded) → AllByRecursion HasOwnKey es → IsDistinct is_same_key (keys_of es)
    → find (has_key server kind mid) (values_of es) ≡ Some r → q r ≡ false
    → find (has_key server kind mid) (filter q (values_of es)) ≡ None
unfolding IsDistinct
found-lost server kind mid q [] r owns distinct h fails = refl
found-lost server kind mid q (e ∷ es) r owns distinct h fails =
    by (has_key server kind mid e.1) refl distinct.0
    (λ found. found-lost server kind mid q es r owns.1 distinct.1 found fails)
  where
    p : Recorded → Bool
    p = has_key server kind mid

    by : (b : Bool) → p e.1 ≡ b → AllByRecursion (λ k. is_same_key e.0 k ≡ false) (keys_of es)
        → (find p (values_of es) ≡ Some r → find p (filter q (values_of es)) ≡ None)
        → find p (filter q (e.1 ∷ values_of es)) ≡ None
    by true at differ rest =
        let same : e.1 ≡ r = same_Some e.1 r (sym (find-true p e.1 (values_of es) at) ∙ h) in
        ap (find p) (filter-false q e.1 (values_of es) (ap q same ∙ fails))
        ∙ found-none p q (values_of es) (others server kind mid e es owns.0 owns.1 at differ)
    by false at differ rest =
        find-past p q e.1 (values_of es) at ∙ rest (sym (find-false p e.1 (values_of es) at) ∙ h)
