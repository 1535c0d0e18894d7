-- Lists in which one item stands between two parts, and items that are each good after those before them.
use Rattle.std.proofs.Common.{◌≡◌, ℕ, suc, ◌+◌, ◌<◌, ◌≤◌, Bool, true, false, cond, not, ◌||◌, eqb, ltb, List, [], ◌∷◌}
use Rattle.std.proofs.Common.{◌++◌, map, length, find, None, Some, refl, sym, ap, subst, ◌∙◌, append_assoc}
use Rattle.std.proofs.Common.{length-append, arith}
use Rattle.std.specs.Prelude.{is_some, nat_le}
use Rattle.std.specs.List.{AllByRecursion, list_all, list_any}
use Rattle.std.proofs.lemmas.Bool.{lt-ltb, and_from}
use Rattle.std.proofs.lemmas.Bool.Decides.{nat_tests}
use Rattle.lemmas.proofs.Lists.{each_here}
use Rattle.lemmas.proofs.Numbers.{eqb_below}
use Rattle.byte_layout.specs.Layout.{Layout, each}
use Rattle.object_defs.specs.Lines.{first_line}
use Rattle.object_defs.specs.Vendor.{with_inserted}
use Rattle.device_template.proofs.Ascending.{Rises}

-- ---- what holds of each item

all_between : {A : Type 0} (P : A → Type 0) (front : List A) (a : A) (back : List A) → P a
    → AllByRecursion P (front ++ back) → AllByRecursion P (front ++ a ∷ back)
all_between P [] a back h all = (h, all)
all_between P (x ∷ front) a back h all = (all.0, all_between P front a back h all.1)

-- ---- a list with one item more

pub record IsOneMore {A : Type 0} (a : A) (xs ys : List A) : Type 0 where
  pub front : List A
  pub back : List A
  pub was : xs ≡ front ++ back
  pub is : ys ≡ front ++ a ∷ back

pub behind_head : {A : Type 0} (x a : A) (xs ys : List A) → IsOneMore a xs ys → IsOneMore a (x ∷ xs) (x ∷ ys)
behind_head x a xs ys s =
    record { front = x ∷ s.front; back = s.back; was = ap (λ t. x ∷ t) s.was; is = ap (λ t. x ∷ t) s.is }

pub all_more : {A : Type 0} (P : A → Type 0) (a : A) (xs ys : List A) → IsOneMore a xs ys → P a → AllByRecursion P xs
    → AllByRecursion P ys
all_more P a xs ys s h all =
    subst (AllByRecursion P) (sym s.is) (all_between P s.front a s.back h (subst (AllByRecursion P) s.was all))

length_between : {A : Type 0} (front : List A) (a : A) (back : List A)
    → length (front ++ a ∷ back) ≡ suc (length (front ++ back))
length_between [] a back = refl
length_between (x ∷ front) a back = ap suc (length_between front a back)

pub length_more : {A : Type 0} (a : A) (xs ys : List A) → IsOneMore a xs ys → length ys ≡ suc (length xs)
length_more a xs ys s = ap length s.is ∙ length_between s.front a s.back ∙ ap (λ t. suc (length t)) (sym s.was)

pub inserted_more : {X : Type 0} (number : X → ℕ) (x : X) (xs : List X) → IsOneMore x xs (with_inserted number x xs)
inserted_more number x [] = record { front = []; back = []; was = refl; is = refl }
inserted_more number x (y ∷ ys) =
    elim (ltb (number x) (number y)) as (λ b. IsOneMore x (y ∷ ys)
    (cond b (x ∷ y ∷ ys) (y ∷ with_inserted number x ys))) [
      | true ↦ record { front = []; back = y ∷ ys; was = refl; is = refl }
      | false ↦ behind_head y x ys (with_inserted number x ys) (inserted_more number x ys)
    ]

-- what is taken of a list, part by part
module _ {A B : Type 0} (g : List A → List B) (joins : (xs ys : List A) → g (xs ++ ys) ≡ g xs ++ g ys) where
  taken_between : (front : List A) (a : A) (back : List A)
      → length (g (front ++ a ∷ back)) ≡ length (g front) + (length (g (a ∷ [])) + length (g back))
  taken_between front a back =
      ap length (joins front (a ∷ back)) ∙ length-append (g front) (g (a ∷ back))
      ∙ ap (λ n. length (g front) + n) (ap length (joins (a ∷ []) back) ∙ length-append (g (a ∷ [])) (g back))

  pub taken_more : (a : A) (xs ys : List A) → IsOneMore a xs ys → length (g ys) ≡ length (g xs) + length (g (a ∷ []))
  taken_more a xs ys s =
      let m : length (g ys) ≡ length (g s.front) + (length (g (a ∷ [])) + length (g s.back)) =
      ap (λ t. length (g t)) s.is ∙ taken_between s.front a s.back in
      let n : length (g xs) ≡ length (g s.front) + length (g s.back) =
      ap (λ t. length (g t)) s.was ∙ ap length (joins s.front s.back) ∙ length-append (g s.front) (g s.back) in
      omega (arith, m, n)

  pub taken_before : (xs front : List A) (a : A) (back : List A) → xs ≡ front ++ a ∷ back
      → length (g front) + length (g (a ∷ [])) ≤ length (g xs)
  taken_before xs front a back e =
      let m : length (g xs) ≡ length (g front) + (length (g (a ∷ [])) + length (g back)) =
      ap (λ t. length (g t)) e ∙ taken_between front a back in
      omega (arith, m)

pub shorter : {A : Type 0} (xs front : List A) (a : A) (back : List A) → xs ≡ front ++ a ∷ back
    → length front < length xs
shorter xs front a back e =
    let m : length xs ≡ length front + suc (length back) = ap length e ∙ length-append front (a ∷ back) in
    omega (arith, m)

-- ---- items that are each good after those before them

pub each_good : {A : Type 0} (part : List A → Layout A) (all before xs : List A) → all ≡ before ++ xs
    → ((front : List A) (a : A) (back : List A) → all ≡ front ++ a ∷ back → (part front).Good a)
    → (each part (length xs) before).Good xs
unfolding each
each_good part all before [] e good = refl
each_good part all before (x ∷ xs) e good =
    (good before x xs e, each_good part all (before ++ x ∷ []) xs (e ∙ sym (append_assoc before (x ∷ []) xs)) good)

-- ---- ascending numbers

pub rising_front : (front : List ℕ) (n : ℕ) (back : List ℕ) → Rises (front ++ n ∷ back)
    → AllByRecursion (λ m. m < n) front
rising_front [] n back h = tt
rising_front (x ∷ front) n back h = (each_here (λ y. x < y) front n back h.0, rising_front front n back h.1)

pub all_below : {X : Type 0} (number : X → ℕ) (n : ℕ) (xs : List X) → AllByRecursion (λ m. m < n) (map number xs)
    → list_all (λ x. ltb (number x) n) xs ≡ true
all_below number n [] h = refl
all_below number n (x ∷ xs) h = and_from (ltb (number x) n) _ (lt-ltb (number x) n h.0) (all_below number n xs h.1)

pub map_inserted : {X : Type 0} (number : X → ℕ) (x : X) (xs : List X)
    → map number (with_inserted number x xs) ≡ with_inserted (λ a. a) (number x) (map number xs)
map_inserted number x [] = refl
map_inserted number x (y ∷ ys) =
    elim (ltb (number x) (number y)) as (λ b. map number (cond b (x ∷ y ∷ ys) (y ∷ with_inserted number x ys))
    ≡ cond b (number x ∷ number y ∷ map number ys) (number y ∷ with_inserted (λ a. a) (number x) (map number ys))) [
      | true ↦ refl
      | false ↦ ap (λ t. number y ∷ t) (map_inserted number x ys)
    ]

-- ---- what is found by its number

pub found_any : {X : Type 0} (number : X → ℕ) (n : ℕ) (xs : List X)
    → is_some (find (λ x. eqb (number x) n) xs) ≡ list_any (λ m. eqb m n) (map number xs)
found_any number n [] = refl
found_any number n (x ∷ xs) =
    elim (eqb (number x) n) as (λ b. is_some (cond b (Some x) (find (λ y. eqb (number y) n) xs))
    ≡ (b || list_any (λ m. eqb m n) (map number xs))) [
      | true ↦ refl
      | false ↦ found_any number n xs
    ]

pub none_there : (n : ℕ) (xs : List ℕ) → AllByRecursion (λ m. m < n) xs → list_any (λ m. eqb m n) xs ≡ false
none_there n [] h = refl
none_there n (x ∷ xs) h = ap (λ b. b || list_any (λ m. eqb m n) xs) (eqb_below x n h.0) ∙ none_there n xs h.1

-- ---- lines that do not apply

pub three_lines : {X : Type 0} (a b c : Bool) (x y z : X) → first_line ((a, x) ∷ (b, y) ∷ (c, z) ∷ []) ≡ None
    → (a ≡ false) × (b ≡ false) × (c ≡ false)
three_lines true b c x y z h = absurd cc
three_lines false true c x y z h = absurd cc
three_lines false false true x y z h = absurd cc
three_lines false false false x y z h = (refl, refl, refl)

pub no_three : {X : Type 0} (a b c : Bool) (x y z : X) → a ≡ false → b ≡ false → c ≡ false
    → first_line ((a, x) ∷ (b, y) ∷ (c, z) ∷ []) ≡ None
no_three true b c x y z h i j = absurd cc
no_three false true c x y z h i j = absurd cc
no_three false false true x y z h i j = absurd cc
no_three false false false x y z h i j = refl

pub below : (n m : ℕ) → nat_le m n ≡ false → n < m
below n m h = grind (arith, nat_tests)

pub not_true : (b : Bool) → b ≡ true → not b ≡ false
not_true b h = ap not h
