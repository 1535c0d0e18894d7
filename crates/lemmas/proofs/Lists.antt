-- Lists: what holds of each item, and what stands at a place after an item was added or set.
use Rattle.std.proofs.Common.{◌≡◌, ℕ, zero, suc, ◌+◌, ◌-◌, ◌<◌, Bool, true, false, cond, ◌||◌, List, [], ◌∷◌, ◌++◌}
use Rattle.std.proofs.Common.{None, Some, map, set, length, ◌⊎◌, inl, inr, refl, ap, subst, ◌∙◌, arith}
use Rattle.std.proofs.Math.ListN.{take, drop}
use Rattle.std.specs.Int.Digits.{AllBelowBase}
use Rattle.std.specs.List.{slice_get, filter, find, flat_map, list_any, range_with_len, AllByRecursion, AllZip}
use Rattle.std.specs.List.{Contains}

-- ---- each item

pub each_filtered : {X : Type 0} (P : X → Type 0) (p : X → Bool) (xs : List X) → AllByRecursion P xs
    → AllByRecursion P (filter p xs)
each_filtered P p [] h = tt
each_filtered P p (x ∷ xs) h =
    elim (p x) as (λ b. AllByRecursion P (cond b (x ∷ filter p xs) (filter p xs))) [
      | true ↦ (h.0, each_filtered P p xs h.1)
      | false ↦ each_filtered P p xs h.1
    ]

pub each_pushed : {X : Type 0} (P : X → Type 0) (xs : List X) (x : X) → AllByRecursion P xs → P x
    → AllByRecursion P (xs ++ x ∷ [])
each_pushed P [] x h p = (p, tt)
each_pushed P (y ∷ ys) x h p = (h.0, each_pushed P ys x h.1 p)

pub each_appended : {X : Type 0} (P : X → Type 0) (xs ys : List X) → AllByRecursion P xs → AllByRecursion P ys
    → AllByRecursion P (xs ++ ys)
each_appended P [] ys h k = k
each_appended P (x ∷ xs) ys h k = (h.0, each_appended P xs ys h.1 k)

pub each_weaker : {X : Type 0} (P Q : X → Type 0) → ((x : X) → P x → Q x) → (xs : List X) → AllByRecursion P xs
    → AllByRecursion Q xs
each_weaker P Q f [] h = tt
each_weaker P Q f (x ∷ xs) h = (f x h.0, each_weaker P Q f xs h.1)

pub each_at : {X : Type 0} (P : X → Type 0) (xs : List X) (i : ℕ) (x : X) → AllByRecursion P xs
    → slice_get xs i ≡ Some x → P x
each_at P [] i x h e = let f : None ≡ Some x = e in absurd cc
each_at P (y ∷ ys) zero x h e = subst P (let f : Some y ≡ Some x = e in cc) h.0
each_at P (y ∷ ys) (suc i) x h e = each_at P ys i x h.1 e

pub each_flat : {X Y : Type 0} (P : X → Type 0) (Q : Y → Type 0) (f : X → List Y)
    → ((x : X) → P x → AllByRecursion Q (f x)) → (xs : List X) → AllByRecursion P xs → AllByRecursion Q (flat_map f xs)
each_flat P Q f g [] h = tt
each_flat P Q f g (x ∷ xs) h = each_appended Q (f x) (flat_map f xs) (g x h.0) (each_flat P Q f g xs h.1)

pub each_front : {X : Type 0} (P : X → Type 0) (xs ys : List X) → AllByRecursion P (xs ++ ys) → AllByRecursion P xs
each_front P [] ys h = tt
each_front P (x ∷ xs) ys h = (h.0, each_front P xs ys h.1)

pub each_here : {X : Type 0} (P : X → Type 0) (xs : List X) (x : X) (ys : List X)
    → AllByRecursion P (xs ++ x ∷ ys) → P x
each_here P [] x ys h = h.0
each_here P (y ∷ xs) x ys h = each_here P xs x ys h.1

pub below_front : (xs ys : List ℕ) → AllBelowBase 256 (xs ++ ys) → AllBelowBase 256 xs
below_front [] ys h = tt
below_front (x ∷ xs) ys h = (h.0, below_front xs ys h.1)

pub below_back : (xs ys : List ℕ) → AllBelowBase 256 (xs ++ ys) → AllBelowBase 256 ys
below_back [] ys h = h
below_back (x ∷ xs) ys h = below_back xs ys h.1

pub contains_later : {X : Type 0} (y x : X) (xs : List X) → Contains xs x → Contains (y ∷ xs) x
contains_later y x xs h = (suc h.0, omega (arith, h.1), h.2)

pub same_list : {X : Type 0} (C : X → X → Type 0) → ((x y : X) → C x y → y ≡ x) → (xs ys : List X) → AllZip C xs ys
    → ys ≡ xs
same_list C same [] [] h = refl
same_list C same [] (y ∷ ys) h = absurd h
same_list C same (x ∷ xs) [] h = absurd h
same_list C same (x ∷ xs) (y ∷ ys) h = λ i. same x y h.0 i ∷ same_list C same xs ys h.1 i

pub none_found : {X : Type 0} (p : X → Bool) (xs : List X) → list_any p xs ≡ false → find p xs ≡ None
none_found p [] h = refl
none_found p (x ∷ xs) h =
    elim (p x) as (λ b. (b || list_any p xs) ≡ false → cond b (Some x) (find p xs) ≡ None) [
      | true ↦ λ k. cc
      | false ↦ λ k. none_found p xs k
    ] h

-- ---- places

pub item_at : {X : Type 0} (xs : List X) (i : ℕ) → i < length xs → (x : X) × (slice_get xs i ≡ Some x)
item_at [] i h = absurd (omega (arith, h))
item_at (x ∷ xs) zero h = (x, refl)
item_at (x ∷ xs) (suc i) h = item_at xs i (omega (arith, h))

pub item_pushed : {X : Type 0} (xs : List X) (x : X) → slice_get (xs ++ x ∷ []) (length xs) ≡ Some x
item_pushed [] x = refl
item_pushed (y ∷ ys) x = item_pushed ys x

further : {X : Type 0} (z : X) (xs : List X) (k : ℕ) (x y : X) → (slice_get xs k ≡ Some x) ⊎ ((k ≡ length xs) × (y ≡ x))
    → (slice_get (z ∷ xs) (suc k) ≡ Some x) ⊎ ((suc k ≡ length (z ∷ xs)) × (y ≡ x))
further z xs k x y (inl h) = inl h
further z xs k x y (inr h) = inr (ap suc h.0, h.1)

pub pushed_cases : {X : Type 0} (xs : List X) (y : X) (k : ℕ) (x : X) → slice_get (xs ++ y ∷ []) k ≡ Some x
    → (slice_get xs k ≡ Some x) ⊎ ((k ≡ length xs) × (y ≡ x))
pushed_cases [] y zero x h = let e : Some y ≡ Some x = h in inr (refl, cc)
pushed_cases [] y (suc k) x h = let e : None ≡ Some x = h in absurd cc
pushed_cases (z ∷ xs) y zero x h = inl h
pushed_cases (z ∷ xs) y (suc k) x h = further z xs k x y (pushed_cases xs y k x h)

pub item_before : {X : Type 0} (xs : List X) (y : X) (k : ℕ) (x : X) → slice_get xs k ≡ Some x
    → slice_get (xs ++ y ∷ []) k ≡ Some x
item_before [] y k x h = let e : None ≡ Some x = h in absurd cc
item_before (z ∷ xs) y zero x h = h
item_before (z ∷ xs) y (suc k) x h = item_before xs y k x h

pub item_mapped : {X Y : Type 0} (f : X → Y) (xs : List X) (i : ℕ) (x : X) → slice_get xs i ≡ Some x
    → slice_get (map f xs) i ≡ Some (f x)
item_mapped f [] i x h = let e : None ≡ Some x = h in absurd cc
item_mapped f (z ∷ zs) zero x h = let e : Some z ≡ Some x = h in let g : z ≡ x = cc in ap (λ w. Some (f w)) g
item_mapped f (z ∷ zs) (suc i) x h = item_mapped f zs i x h

pub item_set : {X : Type 0} (xs : List X) (i : ℕ) (y : X) → i < length xs → slice_get (set xs i y) i ≡ Some y
item_set [] i y h = absurd (omega (arith, h))
item_set (z ∷ zs) zero y h = refl
item_set (z ∷ zs) (suc i) y h = item_set zs i y (omega (arith, h))

pub set_gives : {X : Type 0} (xs : List X) (i : ℕ) (y x : X) → slice_get (set xs i y) i ≡ Some x → y ≡ x
set_gives [] i y x h = let e : None ≡ Some x = h in absurd cc
set_gives (z ∷ zs) zero y x h = let e : Some y ≡ Some x = h in cc
set_gives (z ∷ zs) (suc i) y x h = set_gives zs i y x h

pub set_elsewhere : {X : Type 0} (xs : List X) (i j : ℕ) (y : X) → (i ≡ j → ⊥)
    → slice_get (set xs i y) j ≡ slice_get xs j
set_elsewhere [] i j y h = refl
set_elsewhere (z ∷ zs) zero zero y h = absurd (h refl)
set_elsewhere (z ∷ zs) zero (suc j) y h = refl
set_elsewhere (z ∷ zs) (suc i) zero y h = refl
set_elsewhere (z ∷ zs) (suc i) (suc j) y h = set_elsewhere zs i j y (λ e. h (ap suc e))

pub set_pushed : {X : Type 0} (xs : List X) (y z : X) → set (xs ++ y ∷ []) (length xs) z ≡ xs ++ z ∷ []
set_pushed [] y z = refl
set_pushed (x ∷ xs) y z = ap (λ l. x ∷ l) (set_pushed xs y z)

-- ---- fronts and rests

pub take_none : {X : Type 0} (xs : List X) → take 0 xs ≡ []
take_none [] = refl
take_none (x ∷ xs) = refl

pub take_next : {X : Type 0} (xs : List X) (i : ℕ) (x : X) → slice_get xs i ≡ Some x
    → take (suc i) xs ≡ take i xs ++ x ∷ []
take_next [] i x h = let f : ⊥ = cc in absurd f
take_next (y ∷ ys) zero x h = let same : y ≡ x = cc in ap (λ t. t ∷ []) same
take_next (y ∷ ys) (suc i) x h = ap (λ t. y ∷ t) (take_next ys i x h)

pub take_one_more : {X : Type 0} (xs : List X) (i : ℕ) (x : X) → slice_get xs i ≡ Some x
    → take (i + 1) xs ≡ take i xs ++ x ∷ []
take_one_more xs i x h = let e : i + 1 ≡ suc i = omega arith in ap (λ n. take n xs) e ∙ take_next xs i x h

pub drop_opens : {X : Type 0} (xs : List X) (i : ℕ) (x : X) → slice_get xs i ≡ Some x → drop i xs ≡ x ∷ drop (suc i) xs
drop_opens [] i x h = let f : ⊥ = cc in absurd f
drop_opens (y ∷ ys) zero x h = let same : y ≡ x = cc in ap (λ t. t ∷ ys) same
drop_opens (y ∷ ys) (suc i) x h = drop_opens ys i x h

-- ---- lengths

pub length_pushed : {X : Type 0} (xs : List X) (x : X) → length (xs ++ x ∷ []) ≡ suc (length xs)
length_pushed [] x = refl
length_pushed (y ∷ xs) x = ap suc (length_pushed xs x)

pub empty_from_length : {X : Type 0} (xs : List X) → length xs ≡ 0 → xs ≡ []
empty_from_length [] e = refl
empty_from_length (x ∷ xs) e = absurd (omega arith)

pub last_place : {X : Type 0} (xs : List X) (x : X) → length (xs ++ x ∷ []) - 1 ≡ length xs
last_place xs x = let e = length_pushed xs x in omega (arith, e)

-- two lists that begin with as many items have the same fronts and the same rests
pub same_parts : {X : Type 0} (a b r s : List X) → length a ≡ length b → a ++ r ≡ b ++ s → (a ≡ b) × (r ≡ s)
same_parts [] [] r s n e = (refl, e)
same_parts [] (y ∷ b) r s n e = absurd (omega arith)
same_parts (x ∷ a) [] r s n e = absurd (omega arith)
same_parts (x ∷ a) (y ∷ b) r s n e =
    let first : x ≡ y = cc in
    let same = same_parts a b r s (omega arith) cc in
    (cc, same.1)

pub range_next : (a n : ℕ) → range_with_len a (suc n) ≡ range_with_len a n ++ (a + n) ∷ []
range_next a zero = ap (λ k. k ∷ []) (omega arith)
range_next a (suc n) =
    ap (λ l. a ∷ l) (range_next (a + 1) n ∙ ap (λ k. range_with_len (a + 1) n ++ k ∷ []) (omega arith))
