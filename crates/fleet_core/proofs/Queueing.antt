-- Devices that come one before the other.
use Rattle.std.proofs.Common.{◌≡◌, ℕ, zero, suc, ◌<◌, ◌≤◌, ◌==◌, nat_lt, Bool, true, false, cond, ◌⊎◌, inl, inr, List}
use Rattle.std.proofs.Common.{[], ◌∷◌, length, map, get_or, All, Contains, IsPermutation, refl, sym, ap, subst, arith}
use Rattle.std.proofs.lemmas.Bool.{false≢true, ltb-true, ltb-false}
use Rattle.std.proofs.lemmas.List.Elements.{All-from_recursion, All-nil, All-weaker}
use Rattle.std.proofs.lemmas.List.Sorted.{Contains-permutation}
use Rattle.std.specs.List.{AllByRecursion}
use Rattle.std.specs.BinaryHeap.{IsUpperBound}
use Rattle.std.specs.Ordering.{is_lt, nat_cmp, ordering_then}
use Rattle.std.specs.declared.cmp.Ordering.{Ordering}
use Rattle.std.specs.declared.cmp.Ordering.TheVariants.{Less, Equal, Greater}
use Rattle.std.specs.declared.cmp.Reverse.{Reverse}
use Rattle.lemmas.proofs.Lists.{contains_later, empty_from_length}
use Rattle.fleet_core.specs.Queue.{lowest_first, numbers_of, fewest_first, pairs_of}

-- ---- the first of a heap

not_lower_by : (a b : ℕ) (t : Bool) → nat_lt b a ≡ t → is_lt (cond t Less (cond (b == a) Equal Greater)) ≡ false
    → a ≤ b
not_lower_by a b true is other = absurd (false≢true (sym other))
not_lower_by a b false is other = ltb-false b a is

not_lower : (a b : ℕ) → is_lt (nat_cmp b a) ≡ false → a ≤ b
not_lower a b other = not_lower_by a b (nat_lt b a) refl other

each_higher : (x : Reverse ℕ) (xs : List (Reverse ℕ)) → IsUpperBound lowest_first x xs
    → AllByRecursion (λ e. x.0 ≤ e) (numbers_of xs)
each_higher x [] first = tt
each_higher x (y ∷ ys) first = (not_lower x.0 y.0 first.0, each_higher x ys first.1)

-- none is lower
pub first_lowest : (x : Reverse ℕ) (xs : List (Reverse ℕ)) → IsUpperBound lowest_first x xs
    → All (λ e. x.0 ≤ e) (numbers_of xs)
first_lowest x xs first = All-from_recursion (λ e. x.0 ≤ e) (numbers_of xs) (each_higher x xs first)

first_part : (a b : Ordering) → is_lt (ordering_then a b) ≡ false → is_lt a ≡ false
first_part Less b other = other
first_part Equal b other = refl
first_part Greater b other = refl

each_later : (x : Reverse (ℕ × ℕ)) (xs : List (Reverse (ℕ × ℕ))) (posts : ℕ) → IsUpperBound fewest_first x xs
    → posts < x.0.0 → AllByRecursion (λ (w : ℕ × ℕ). posts < w.0) (pairs_of xs)
each_later x [] posts first less = tt
each_later x (y ∷ ys) posts first less =
    let more : x.0.0 ≤ y.0.0 =
    not_lower x.0.0 y.0.0 (first_part (nat_cmp y.0.0 x.0.0) (nat_cmp y.0.1 x.0.1) first.0) in
    (omega (arith, more, less), each_later x ys posts first.1 less)

-- none waits for so few posts
pub none_met : (x : Reverse (ℕ × ℕ)) (xs : List (Reverse (ℕ × ℕ))) (posts : ℕ) → IsUpperBound fewest_first x xs
    → posts < x.0.0 → All (λ (w : ℕ × ℕ). posts < w.0) (pairs_of xs)
none_met x xs posts first less =
    All-from_recursion (λ (w : ℕ × ℕ). posts < w.0) (pairs_of xs) (each_later x xs posts first less)

-- ---- what a look at the first of a heap says

empty_from : {X : Type 0} (xs : List X) → false ≡ nat_lt 0 (length xs) → xs ≡ []
empty_from xs none = empty_from_length xs (omega (arith, ltb-false 0 (length xs) (sym none)))

pub none_at_all : {X Y : Type 0} (f : X → Y) (P : Y → Type 0) (xs : List X) (ys : List Y) → map f xs ≡ ys
    → false ≡ nat_lt 0 (length xs) → All P ys
none_at_all f P xs ys view none =
    subst (All P) view (subst (λ l. All P (map f l)) (sym (empty_from xs none)) (All-nil P))

number_in : (x : Reverse ℕ) (xs : List (Reverse ℕ)) → true ≡ nat_lt 0 (length xs) → x ≡ get_or xs 0 x
    → Contains (numbers_of xs) x.0
number_in x [] some is = absurd (false≢true (sym some))
number_in x (y ∷ ys) some is = (0, omega arith, ap (λ (r : Reverse ℕ). r.0) (sym is))

pub one_below : (x : Reverse ℕ) (xs : List (Reverse ℕ)) (numbers : List ℕ) (d : ℕ) → numbers_of xs ≡ numbers
    → true ≡ nat_lt 0 (length xs) → x ≡ get_or xs 0 x → nat_lt x.0 d ≡ true → (e : ℕ) × (e < d) × Contains numbers e
one_below x xs numbers d view some is less =
    (x.0, ltb-true x.0 d less, subst (λ l. Contains l x.0) view (number_in x xs some is))

pub none_below : (x : Reverse ℕ) (xs : List (Reverse ℕ)) (numbers : List ℕ) (d : ℕ) → numbers_of xs ≡ numbers
    → IsUpperBound lowest_first x xs → nat_lt x.0 d ≡ false → All (λ e. d ≤ e) numbers
none_below x xs numbers d view first not_less =
    let low : d ≤ x.0 = ltb-false x.0 d not_less in
    subst (All (λ e. d ≤ e)) view
    (All-weaker (λ e. x.0 ≤ e) (λ e. d ≤ e) (λ e h. omega (arith, low, h)) (numbers_of xs) (first_lowest x xs first))

-- ---- one more, and one less

pub added_here : {X : Type 0} (old new : List X) (x : X) → IsPermutation (x ∷ old) new → Contains new x
added_here old new x added = Contains-permutation (x ∷ old) new x added (0, omega arith, refl)

pub added_kept : {X : Type 0} (old new : List X) (x y : X) → IsPermutation (x ∷ old) new → Contains old y
    → Contains new y
added_kept old new x y added h = Contains-permutation (x ∷ old) new y added (contains_later x y old h)

first_or : {X : Type 0} (x y : X) (xs : List X) (k : ℕ) → k < length (x ∷ xs) → get_or (x ∷ xs) k y ≡ y
    → (x ≡ y) ⊎ Contains xs y
first_or x y xs zero less is = inl is
first_or x y xs (suc k) less is = inr (k, omega (arith, less), is)

-- it is the one that was taken out, or still there
pub taken_or : {X : Type 0} (old new : List X) (x y : X) → IsPermutation old (x ∷ new) → Contains old y
    → (x ≡ y) ⊎ Contains new y
taken_or old new x y taken h =
    let there = Contains-permutation old (x ∷ new) y taken h in first_or x y new there.0 there.1 there.2

pub none_there : {X : Type 0} (xs : List X) (x : X) → xs ≡ [] → Contains xs x → ⊥
none_there xs x none h = let less : h.0 < length xs = h.1 in omega (arith, ap length none, less)
