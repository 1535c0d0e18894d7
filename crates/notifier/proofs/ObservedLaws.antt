-- The observations of an insertion-ordered map whose keys are their names.
use Rattle.std.proofs.Common.{◌≡◌, ℕ, ◌+◌, ◌*◌, ◌<◌, ◌≤◌, length, arith, zero, suc, ◌==◌, Bool, true, false, cond, ◌&&◌}
use Rattle.std.proofs.Common.{◌||◌, List, [], ◌∷◌, ◌++◌, Option, None, Some, filter, map, remove, slice_get, slice_set}
use Rattle.std.proofs.Common.{IfSome, refl, sym, ap, subst, ◌∙◌, if◌then◌else◌, eqb-true, eq-eqb, position}
use Rattle.std.proofs.lemmas.Bool.{and_from, and_parts, and_right, false_from_ne_true, or_parts}
use Rattle.std.proofs.lemmas.Iterator.Adapters.{position_from-zero}
use Rattle.std.proofs.lemmas.Nat.{mod_below}
use Rattle.std.proofs.lemmas.Slice.Eq.{bytes_eq-Decides}
use Rattle.std.specs.Bool.{one_answer}
use Rattle.std.specs.Int.Digits.{AllBelowBase, number_from_digits_after}
use Rattle.std.specs.List.{AllByRecursion, IsDistinct, list_any, position_from}
use Rattle.std.specs.Option.{option_map_or}
use Rattle.std.specs.Map.{keys_of, values_of, lookup}
use Rattle.std.specs.Str.{bytes_eq}
use Rattle.indexmap.specs.IndexMap.{set_value_at}
use Rattle.lemmas.proofs.Lists.{none_found}
use Rattle.notifier.specs.declared.observation.Observation.{Observation}
use Rattle.notifier.specs.declared.entries.Key.{Key}
use Rattle.notifier.specs.Inside.{name_key, token_number}
use Rattle.notifier.specs.Observed.{HasNumber, IsKeyed, HaveDistinctNames, is_named, next_number, number_for, as_closed}
use Rattle.notifier.specs.Observed.{with_registered}
use Rattle.notifier.proofs.Places.{IsFirst, find_first, passes_first}

-- ---- the values of a map

pub values-set_value_at : {K X : Type 0} (es : List (K × X)) (i : ℕ) (w : X)
    → values_of (set_value_at es i w) ≡ slice_set (values_of es) i w
values-set_value_at [] i w = refl
values-set_value_at (e ∷ es) zero w = refl
values-set_value_at (e ∷ es) (suc i) w = ap (λ t. e.1 ∷ t) (values-set_value_at es i w)

pub values-filter : {K X : Type 0} (p : X → Bool) (es : List (K × X))
    → values_of (filter (λ e. p e.1) es) ≡ filter p (values_of es)
values-filter p [] = refl
values-filter p (e ∷ es) =
    elim (p e.1) as (λ b. values_of (cond b (e ∷ filter (λ x. p x.1) es) (filter (λ x. p x.1) es))
    ≡ cond b (e.1 ∷ filter p (values_of es)) (filter p (values_of es))) [
      | true ↦ ap (λ t. e.1 ∷ t) (values-filter p es)
      | false ↦ values-filter p es
    ]

pub values-append : {K X : Type 0} (es : List (K × X)) (e : K × X) → values_of (es ++ e ∷ []) ≡ values_of es ++ e.1 ∷ []
values-append [] e = refl
values-append (x ∷ es) e = ap (λ t. x.1 ∷ t) (values-append es e)

pub values-remove : {K X : Type 0} (es : List (K × X)) (i : ℕ) → values_of (remove es i) ≡ remove (values_of es) i
values-remove [] zero = refl
values-remove [] (suc i) = refl
values-remove (e ∷ es) zero = refl
values-remove (e ∷ es) (suc i) = ap (λ t. e.1 ∷ t) (values-remove es i)

pub values-map : {K X : Type 0} (f : X → X) (es : List (K × X))
    → values_of (map (λ e. (e.0, f e.1)) es) ≡ map f (values_of es)
values-map f [] = refl
values-map f (e ∷ es) = ap (λ t. f e.1 ∷ t) (values-map f es)

pub length-map : {X : Type 0} (f : X → X) (xs : List X) → length (map f xs) ≡ length xs
length-map f [] = refl
length-map f (x ∷ xs) = ap suc (length-map f xs)

-- ---- what holds of each entry

pub each-remove : {X : Type 0} (P : X → Type 0) (xs : List X) (i : ℕ) → AllByRecursion P xs
    → AllByRecursion P (remove xs i)
each-remove P [] zero h = tt
each-remove P [] (suc i) h = tt
each-remove P (x ∷ xs) zero h = h.1
each-remove P (x ∷ xs) (suc i) h = (h.0, each-remove P xs i h.1)

-- a number that comes next has 24 bits
pub next_fits : (n m : ℕ) → m ≡ next_number n → m < 16777216
next_fits n m next = let positive : 0 < 16777216 =
    omega arith in subst (λ (k : ℕ). k < 16777216) (sym next) (mod_below (n + 1) 16777216 positive)

-- an observation that comes in the place of another of its name
pub keyed_set : (es : List (Key × Observation)) (i : ℕ) (o w : Observation) → AllByRecursion IsKeyed es
    → slice_get (values_of es) i ≡ Some o → o.server ≡ w.server → o.token ≡ w.token → HasNumber w
    → AllByRecursion IsKeyed (set_value_at es i w)
keyed_set [] i o w h at server token number = tt
keyed_set (e ∷ es) zero o w h at server token number =
    let same : e.1 ≡ o = cc in
    let text : e.1.token ≡ w.token = ap (λ x. x.token) same ∙ token in (
      record {
        key = h.0.key ∙ (λ j. name_key ((ap (λ x. x.server) same ∙ server) j) (text j));
        short = subst (λ (t : List ℕ). length t ≤ 8) text h.0.short;
        bytes = subst (AllBelowBase 256) text h.0.bytes;
        number = number;
      },
      h.1,
    )
keyed_set (e ∷ es) (suc i) o w h at server token number = (h.0, keyed_set es i o w h.1 at server token number)

-- observations that are closed keep their names and their numbers
pub keyed_closed : (test : Observation → Bool) (es : List (Key × Observation)) → AllByRecursion IsKeyed es
    → AllByRecursion IsKeyed (map (λ e. (e.0, if test e.1 then as_closed e.1 else e.1)) es)
keyed_closed test [] h = tt
keyed_closed test (e ∷ es) h = (
  elim (test e.1) as (λ b. IsKeyed (e.0, if b then as_closed e.1 else e.1)) [
    | true ↦ record { key = h.0.key; short = h.0.short; bytes = h.0.bytes; number = h.0.number }
    | false ↦ record { key = h.0.key; short = h.0.short; bytes = h.0.bytes; number = h.0.number }
  ],
  keyed_closed test es h.1,
)

-- what the keys say of each observation holds of the one at a place
holds_at : (P : Observation → Type 0) → ((e : Key × Observation) → IsKeyed e → P e.1)
    → (es : List (Key × Observation)) (i : ℕ) (o : Observation) → AllByRecursion IsKeyed es
    → slice_get (values_of es) i ≡ Some o → P o
holds_at P says [] i o h at = cc
holds_at P says (e ∷ es) zero o h at = let same : e.1 ≡ o = cc in subst P same (says e h.0)
holds_at P says (e ∷ es) (suc i) o h at = holds_at P says es i o h.1 at

-- the same of a place that may be none
pub if_at : (P : Observation → Type 0) → ((e : Key × Observation) → IsKeyed e → P e.1)
    → (es : List (Key × Observation)) (i : ℕ) (r : Option Observation) → AllByRecursion IsKeyed es
    → r ≡ slice_get (values_of es) i → IfSome r P
if_at P says es i None h at = tt
if_at P says es i (Some o) h at = holds_at P says es i o h (sym at)

-- the numbers of all of them have 24 bits
pub numbers_fit : (es : List (Key × Observation)) → AllByRecursion IsKeyed es → AllByRecursion HasNumber (values_of es)
numbers_fit [] h = tt
numbers_fit (e ∷ es) h = (h.0.number, numbers_fit es h.1)

-- ---- look-ups

-- digits of as many places that have one number are one
same_digits : (m n : ℕ) (s t : List ℕ) → AllBelowBase 256 s → AllBelowBase 256 t → length s ≡ length t
    → number_from_digits_after 256 m s ≡ number_from_digits_after 256 n t → (m ≡ n) × (s ≡ t)
same_digits m n [] [] h k len e = (e, refl)
same_digits m n [] (y ∷ t) h k len e = absurd (omega arith)
same_digits m n (x ∷ s) [] h k len e = absurd (omega arith)
same_digits m n (x ∷ s) (y ∷ t) h k len e =
    let rest = same_digits (m * 256 + x) (n * 256 + y) s t h.1 k.1 (omega arith) e in
    let first : x ≡ y = omega (arith, rest.0, h.0, k.0) in
    (omega (arith, rest.0, h.0, k.0), (λ j. first j ∷ rest.1 j))

-- tokens of one length and one number are one
token_test : (s t : List ℕ) → AllBelowBase 256 s → AllBelowBase 256 t
    → (length s == length t && token_number s == token_number t) ≡ bytes_eq s t
token_test s t h k =
    one_answer {P = s ≡ t} (length s == length t && token_number s == token_number t) (bytes_eq s t) (
      (λ e.
          let parts = and_parts (length s == length t) (token_number s == token_number t) e in
          (same_digits 0 0 s t h k (eqb-true (length s) (length t) parts.0)
          (eqb-true (token_number s) (token_number t) parts.1)).1),
      (λ e. and_from (length s == length t) (token_number s == token_number t)
          (eq-eqb (length s) (length t) (ap length e)) (eq-eqb (token_number s) (token_number t) (ap token_number e))),
    ) (bytes_eq-Decides s t)

-- the test by which keys are looked up
abbrev pub tests_keys : (Key → Key → Bool) → Type 0
tests_keys eq = (k j : Key) → eq k j ≡ (k.server == j.server && (k.len == j.len && k.token == j.token))

module _ (eq : Key → Key → Bool) (law : tests_keys eq) (server : ℕ) (token : List ℕ) (bytes : AllBelowBase 256 token)
  where
    -- an entry has the key of a name where its observation has that name
    key_test : (e : Key × Observation) → IsKeyed e → eq (name_key server token) e.0 ≡ is_named server token e.1
    key_test e h =
        law (name_key server token) e.0
        ∙ (λ j. server == (h.key j).server && (length token == (h.key j).len && token_number token == (h.key j).token))
        ∙ ap (λ b. server == e.1.server && b) (token_test token e.1.token bytes h.bytes)

    -- a name that no observation has is no key
    pub no_key : (es : List (Key × Observation)) → AllByRecursion IsKeyed es
        → list_any (is_named server token) (values_of es) ≡ false → lookup (eq (name_key server token)) es ≡ None
    no_key [] h none = refl
    no_key (e ∷ es) h none =
        let parts = or_parts (is_named server token e.1) _ none in
        ap (λ b. cond b (Some e.1) (lookup (eq (name_key server token)) es)) (key_test e h.0 ∙ parts.0)
        ∙ no_key es h.1 parts.1

    none_named : (es : List (Key × Observation)) → AllByRecursion IsKeyed es
        → AllByRecursion (λ j. eq (name_key server token) j ≡ false) (keys_of es)
        → list_any (is_named server token) (values_of es) ≡ false
    none_named [] h apart = refl
    none_named (e ∷ es) h apart =
        ap (λ b. b || list_any (is_named server token) (values_of es)) (sym (key_test e h.0) ∙ apart.0)
        ∙ none_named es h.1 apart.1

    same_places : (es : List (Key × Observation)) (n : ℕ) → AllByRecursion IsKeyed es
        → position_from (eq (name_key server token)) n (keys_of es)
        ≡ position_from (is_named server token) n (values_of es)
    same_places [] n h = refl
    same_places (e ∷ es) n h = λ j. cond (key_test e h.0 j) (Some n) (same_places es (n + 1) h.1 j)

    -- the place of the key of a name is that of the observation of the name
    pub place_found : (es : List (Key × Observation)) → AllByRecursion IsKeyed es
        → position (eq (name_key server token)) (keys_of es) ≡ position (is_named server token) (values_of es)
    place_found es h =
        position_from-zero (eq (name_key server token)) (keys_of es) ∙ same_places es 0 h
        ∙ sym (position_from-zero (is_named server token) (values_of es))

-- no observation has a token of more than 8 bytes
too_long : (server : ℕ) (token : List ℕ) (e : Key × Observation) → 8 < length token → IsKeyed e
    → is_named server token e.1 ≡ false
too_long server token e long h =
    and_right (server == e.1.server) (bytes_eq token e.1.token) (false_from_ne_true (bytes_eq token e.1.token) (λ same.
    let len : length token ≡ length e.1.token = ap length ((bytes_eq-Decides token e.1.token).0 same) in
    omega (arith, h.short)))

nowhere : (server : ℕ) (token : List ℕ) (es : List (Key × Observation)) (n : ℕ) → 8 < length token
    → AllByRecursion IsKeyed es → position_from (is_named server token) n (values_of es) ≡ None
nowhere server token [] n long h = refl
nowhere server token (e ∷ es) n long h =
    λ j. cond (too_long server token e long h.0 j) (Some n) (nowhere server token es (n + 1) long h.1 j)

pub no_place : (server : ℕ) (token : List ℕ) (es : List (Key × Observation)) → 8 < length token
    → AllByRecursion IsKeyed es → position (is_named server token) (values_of es) ≡ None
no_place server token es long h =
    position_from-zero (is_named server token) (values_of es) ∙ nowhere server token es 0 long h

-- ---- a registration

pub number_for-first : (os : List Observation) (server : ℕ) (token : List ℕ) (i : ℕ) (o : Observation)
    → IsFirst (is_named server token) os i → slice_get os i ≡ Some o → number_for os server token ≡ next_number o.number
number_for-first os server token i o first at =
    ap (λ f. option_map_or (λ x. next_number x.number) f 0) (find_first _ os i first ∙ at)

pub number_for-none : (os : List Observation) (server : ℕ) (token : List ℕ)
    → list_any (is_named server token) os ≡ false → number_for os server token ≡ 0
number_for-none os server token none = ap (λ f. option_map_or (λ x. next_number x.number) f 0) (none_found _ os none)

pub with_registered-first : (os : List Observation) (new o : Observation) (i : ℕ)
    → IsFirst (is_named new.server new.token) os i → slice_get os i ≡ Some o
    → with_registered os new ≡ slice_set os i (record new { number = next_number o.number })
with_registered-first [] new o i first at = absurd first
with_registered-first (x ∷ os) new o zero first at =
    let same : x ≡ o = cc in
    ap (λ b. if b then record new { number = next_number x.number } ∷ os else x ∷ with_registered os new) first
    ∙ ap (λ y. record new { number = next_number y.number } ∷ os) same
with_registered-first (x ∷ os) new o (suc i) first at =
    ap (λ b. if b then record new { number = next_number x.number } ∷ os else x ∷ with_registered os new) first.0
    ∙ ap (λ t. x ∷ t) (with_registered-first os new o i first.1 at)

pub with_registered-none : (os : List Observation) (new : Observation)
    → list_any (is_named new.server new.token) os ≡ false
    → with_registered os new ≡ os ++ record new { number = 0 } ∷ []
with_registered-none [] new none = refl
with_registered-none (x ∷ os) new none =
    let parts = or_parts _ _ none in
    ap (λ b. if b then record new { number = next_number x.number } ∷ os else x ∷ with_registered os new) parts.0
    ∙ ap (λ t. x ∷ t) (with_registered-none os new parts.1)

-- an observation of this name has this server and this token
pub name_is : (server : ℕ) (token : List ℕ) (o : Observation) → is_named server token o ≡ true → (o.server ≡ server)
    × (o.token ≡ token)
name_is server token o h = let parts =
    and_parts _ _ h in (sym (eqb-true server o.server parts.0), sym ((bytes_eq-Decides token o.token).0 parts.1))

pub keyed_renewed : (es : List (Key × Observation)) (i : ℕ) (o w : Observation) → AllByRecursion IsKeyed es
    → IsFirst (is_named w.server w.token) (values_of es) i → slice_get (values_of es) i ≡ Some o → HasNumber w
    → AllByRecursion IsKeyed (set_value_at es i w)
keyed_renewed es i o w h first at number =
    let name = name_is w.server w.token o (passes_first _ (values_of es) i o first at) in
    keyed_set es i o w h at name.0 name.1 number

-- ---- how many there are, and that their names differ

pub kept_at_most : {X : Type 0} (q : X → Bool) (xs : List X) → length (filter q xs) ≤ length xs
kept_at_most q [] = omega arith
kept_at_most q (x ∷ xs) =
    elim (q x) as (λ b. length (cond b (x ∷ filter q xs) (filter q xs)) ≤ length (x ∷ xs)) [
      | true ↦ omega (arith, kept_at_most q xs)
      | false ↦ omega (arith, kept_at_most q xs)
    ]

pub names_differ : (eq : Key → Key → Bool) → tests_keys eq → (es : List (Key × Observation))
    → AllByRecursion IsKeyed es → IsDistinct eq (keys_of es) → HaveDistinctNames (values_of es)
unfolding IsDistinct
names_differ eq law [] h apart = tt
names_differ eq law (e ∷ es) h apart = (
  none_named eq law e.1.server e.1.token h.0.bytes es h.1
      (subst (λ k. AllByRecursion (λ j. eq k j ≡ false) (keys_of es)) h.0.key apart.0),
  names_differ eq law es h.1 apart.1,
)
