-- Words, seen through references.
use Rattle.std.proofs.Common.{◌≡◌, ℕ, zero, suc, ◌<◌, Bool, true, false, List, [], ◌∷◌, ◌++◌, length, get_or}
use Rattle.std.proofs.Common.{take, map, refl, sym, ap, ◌∙◌, cond, arith, ◌||◌}
use Rattle.std.specs.Prelude.{Option, None, Some, find}
use Rattle.std.specs.List.{list_any}
use Rattle.std.specs.Option.{option_or}
use Rattle.std.proofs.lemmas.List.Folds.{find-append}

pub any_map : {X Y : Type 0} (f : X → Y) (p : Y → Bool) (xs : List X)
    → list_any p (map f xs) ≡ list_any (λ x. p (f x)) xs
any_map f p [] = refl
any_map f p (x ∷ xs) = ap (λ b. p (f x) || b) (any_map f p xs)

first : {Y : Type 0} (b : Bool) (y : Y) (o : Option Y) → b ≡ true → cond b (Some y) o ≡ Some y
first true y o h = refl
first false y o h = cc

past : {Y : Type 0} (b : Bool) (y : Y) (o : Option Y) → b ≡ false → cond b (Some y) o ≡ o
past true y o h = cc
past false y o h = refl

is_past : {Y : Type 0} (b : Bool) (y : Y) (o : Option Y) → cond b (Some y) o ≡ None → b ≡ false
is_past true y o h = cc
is_past false y o h = refl

none_behind : {Y : Type 0} (b : Bool) (y : Y) (o : Option Y) → cond b (Some y) o ≡ None → o ≡ None
none_behind true y o h = cc
none_behind false y o h = h

pub found_first : {X Y : Type 0} (f : X → Y) (p : Y → Bool) (xs : List X) (i : ℕ) (d : X) → i < length xs
    → find p (map f (take i xs)) ≡ None → p (f (get_or xs i d)) ≡ true
    → Some (f (get_or xs i d)) ≡ find p (map f xs)
found_first f p [] i d within none here = absurd (omega arith)
found_first f p (x ∷ xs) zero d within none here = sym (first (p (f x)) (f x) (find p (map f xs)) here)
found_first f p (x ∷ xs) (suc i) d within none here =
    let rest : find p (map f (take i xs)) ≡ None = none_behind (p (f x)) (f x) (find p (map f (take i xs))) none in
    found_first f p xs i d (omega arith) rest here
    ∙ sym (past (p (f x)) (f x) (find p (map f xs))
    (is_past (p (f x)) (f x) (find p (map f (take i xs))) none))

pub none_more : {X Y : Type 0} (f : X → Y) (p : Y → Bool) (xs : List X) (i : ℕ) (d : X) → i < length xs
    → find p (map f (take i xs)) ≡ None → p (f (get_or xs i d)) ≡ false
    → find p (map f (take (suc i) xs)) ≡ None
none_more f p [] i d within none here = absurd (omega arith)
none_more f p (x ∷ xs) zero d within none here = past (p (f x)) (f x) None here
none_more f p (x ∷ xs) (suc i) d within none here =
    past (p (f x)) (f x) (find p (map f (take (suc i) xs)))
    (is_past (p (f x)) (f x) (find p (map f (take i xs))) none)
    ∙ none_more f p xs i d (omega arith) (none_behind (p (f x)) (f x) (find p (map f (take i xs))) none) here

or_some : {Y : Type 0} (y : Y) (o q : Option Y) → o ≡ Some y → option_or o q ≡ Some y
or_some y None q h = cc
or_some y (Some z) q h = h

or_none : {Y : Type 0} (o q : Option Y) → o ≡ None → option_or o q ≡ q
or_none None q h = refl
or_none (Some z) q h = cc

pub in_first : {Y : Type 0} (p : Y → Bool) (xs ys : List Y) (y : Y) → find p xs ≡ Some y → find p (xs ++ ys) ≡ Some y
in_first p xs ys y h = find-append p xs ys ∙ or_some y (find p xs) (find p ys) h

pub in_second : {Y : Type 0} (p : Y → Bool) (xs ys : List Y) → find p xs ≡ None → find p (xs ++ ys) ≡ find p ys
in_second p xs ys h = find-append p xs ys ∙ or_none (find p xs) (find p ys) h
