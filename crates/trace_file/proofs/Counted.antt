-- A list with four bytes of count: which have bytes, judged item by item as a loop does.
use Rattle.std.proofs.Common.{◌≡◌, ℕ, suc, ◌+◌, ◌<◌, ◌≤◌, List, [], ◌∷◌, ◌++◌, length, get_or, take, refl, ap, sym}
use Rattle.std.proofs.Common.{subst, ◌∙◌, arith}
use Rattle.std.specs.Int.{w32}
use Rattle.std.proofs.lemmas.List.{take_more, take_all}
use Rattle.byte_layout.specs.Layout.{Layout, number, each, list_with_count}
use Rattle.byte_layout.proofs.Fields.{number_good, number_below}
use Rattle.byte_layout.proofs.Lists.{each_length, each_push}
use Rattle.byte_layout.proofs.Written.{may_write}

-- each of the first i items has bytes
abbrev pub AreGood : {A : Type 0} → Layout A → List A → ℕ → Type 0
AreGood p xs i = (each (λ before. p) i []).Good (take i xs)

pub none_yet : {A : Type 0} (p : Layout A) (xs : List A) → AreGood p xs 0
unfolding each
none_yet p xs = refl

-- one more has
pub one_more : {A : Type 0} (p : Layout A) (xs : List A) (i : ℕ) (x : A) → i < length xs → x ≡ get_or xs i x → p.Good x
    → AreGood p xs i → AreGood p xs (i + 1)
one_more {A = A} p xs i x lt item good so_far =
    let on : suc i ≡ i + 1 = omega arith in
    let more : take i xs ++ x ∷ [] ≡ take (i + 1) xs =
    sym (take_more xs i x lt ∙ ap (λ y. take i xs ++ y ∷ []) (sym item)) in
    subst (λ (ys : List A). (each (λ before. p) (i + 1) []).Good ys) more
    (subst (λ n. (each (λ before. p) n []).Good (take i xs ++ x ∷ [])) on
    (each_push (λ before. p) i [] (take i xs) x so_far good))

-- where all have, the list has
pub all_good : {A : Type 0} (p : Layout A) (xs : List A) (i : ℕ) → length xs < 4294967296 → length xs ≤ i
    → AreGood p xs i
    → (list_with_count (number w32) (λ before. p)).Good xs
all_good {A = A} p xs i short le so_far =
    let whole : take i xs ≡ xs = take_all i xs le in
    let good : (each (λ before. p) i []).Good xs =
    subst (λ (ys : List A). (each (λ before. p) i []).Good ys) whole so_far in
    let count : i ≡ length xs = sym (each_length (λ before. p) i [] xs good) in
    (number_good w32 (length xs) short, subst (λ n. (each (λ before. p) n []).Good xs) count good)

-- in a list that has bytes, each item has
pub item_good : {A : Type 0} (p : Layout A) (xs : List A) (i : ℕ) (x : A) → i < length xs → x ≡ get_or xs i x
    → (list_with_count (number w32) (λ before. p)).Good xs → p.Good x
item_good p xs i x lt item good = may_write (λ before. p) xs i x good.1 lt item

-- and it is not too long
pub count_below : {A : Type 0} (p : Layout A) (xs : List A) → (list_with_count (number w32) (λ before. p)).Good xs
    → length xs < 4294967296
count_below p xs good = number_below w32 (length xs) good.0
