-- What is held: the first that goes on is taken out, one more is put in.
use Rattle.std.proofs.Common.{◌≡◌, ℕ, zero, suc, ◌≤◌, ◌<◌, ◌==◌, Bool, true, false, cond, List, [], ◌∷◌, ◌++◌}
use Rattle.std.proofs.Common.{length, take, drop, get_or, None, Some, slice_get, filter, refl, sym, ap, subst, ◌∙◌}
use Rattle.std.proofs.Common.{arith, ltb}
use Rattle.std.specs.List.{AllByRecursion, position, position_or_len, remove}
use Rattle.std.proofs.lemmas.Bool.Decides.{nat_tests}
use Rattle.std.proofs.lemmas.List.Sums.{fails_before_first}
use Rattle.std.proofs.lemmas.Bool.{eq-eqb, ne_eqb}
use Rattle.std.proofs.lemmas.List.Quantifiers.{position-Some}
use Rattle.std.proofs.lemmas.Option.{slice_get_read}
use Rattle.lemmas.proofs.Lists.{drop_opens, each_appended, each_front}
use Rattle.lemmas.proofs.Options.{no_choice}
use Rattle.fleet_wire.specs.declared.lane.Held.{Held}
use Rattle.fleet_wire.specs.declared.plan.Fate.{Fate}
use Rattle.fleet_wire.specs.declared.plan.Fate.TheVariants.{Late, Lost, Passes, Swapped, Twice}
use Rattle.fleet_wire.specs.Schedule.{goes_at_once}
use Rattle.fleet_wire.specs.Lane.{held_by, held_with, AreInOrder, IsFirst}

-- ---- lists

each_taken : {X : Type 0} (P : X → Type 0) (xs : List X) (i : ℕ) (d : X)
    → ((k : ℕ) → k < i → P (get_or xs k d)) → i ≤ length xs → AllByRecursion P (take i xs)
each_taken P xs zero d h l = subst (AllByRecursion P) (sym (none_taken xs)) tt
  where
    none_taken : {X : Type 0} (xs : List X) → take 0 xs ≡ []
    none_taken [] = refl
    none_taken (x ∷ xs) = refl
each_taken P [] (suc i) d h l = tt
each_taken P (x ∷ xs) (suc i) d h l =
    (h 0 (omega arith), each_taken P xs i d (λ k m. h (suc k) (omega arith)) (omega arith))

rejoined : {X : Type 0} (xs : List X) (i : ℕ) → xs ≡ take i xs ++ drop i xs
rejoined [] zero = refl
rejoined [] (suc i) = refl
rejoined (x ∷ xs) zero = refl
rejoined (x ∷ xs) (suc i) = ap (λ t. x ∷ t) (rejoined xs i)

pub each_back : {X : Type 0} (P : X → Type 0) (xs ys : List X) → AllByRecursion P (xs ++ ys) → AllByRecursion P ys
each_back P [] ys h = h
each_back P (x ∷ xs) ys h = each_back P xs ys h.1

pub each_without : {X : Type 0} (P : X → Type 0) (xs : List X) (x : X) (ys : List X)
    → AllByRecursion P (xs ++ x ∷ ys) → AllByRecursion P (xs ++ ys)
each_without P xs x ys h = let k = each_back P xs (x ∷ ys) h in each_appended P xs ys (each_front P xs (x ∷ ys) h) k.1

-- ---- the first that passes

pub first_is : (p : Held → Bool) (xs : List Held) (i : ℕ) (y : Held) (more : List Held) → position p xs ≡ Some i
    → y ≡ get_or xs i y → more ≡ remove xs i → IsFirst p xs y more
first_is p xs i y more found read removed =
    let s = position-Some p xs i y found in
    let at : slice_get xs i ≡ Some y = slice_get_read xs (length xs) i y refl s.0 read in
    record {
      front = take i xs;
      back = drop (suc i) xs;
      all_is = rejoined xs i ∙ ap (λ t. take i xs ++ t) (drop_opens xs i y at);
      others_is = removed;
      passes = ap p read ∙ s.1;
      none = each_taken (λ x. p x ≡ false) xs i y s.2 (omega (arith, s.0));
    }

each_indexed : {X : Type 0} (P : X → Type 0) (xs : List X) → ((k : ℕ) (d : X) → k < length xs → P (get_or xs k d))
    → AllByRecursion P xs
each_indexed P [] h = tt
each_indexed P (x ∷ xs) h = (h 0 x (omega arith), each_indexed P xs (λ k d m. h (suc k) d (omega arith)))

pub none_passes : (p : Held → Bool) (xs : List Held) → position p xs ≡ None → AllByRecursion (λ x. p x ≡ false) xs
none_passes p xs h =
    let test : ltb (position_or_len p xs) (length xs) ≡ false = no_choice _ (position_or_len p xs) h in
    let all : length xs ≤ position_or_len p xs = grind (arith, nat_tests) in
    each_indexed (λ x. p x ≡ false) xs (λ k d m. fails_before_first p xs k d (omega (arith, all, m)))

-- ---- order

abbrev pub Waits : Held → Type 0
Waits h = goes_at_once h.fate ≡ false

pub order_from_waiting : (xs : List Held) → AllByRecursion Waits xs → AreInOrder xs
order_from_waiting [] h = tt
order_from_waiting (x ∷ xs) h = (order_from_waiting xs h.1, λ _. h.1)

pub order_without : (xs : List Held) (y : Held) (ys : List Held) → AreInOrder (xs ++ y ∷ ys) → AreInOrder (xs ++ ys)
order_without [] y ys h = h.0
order_without (x ∷ xs) y ys h = (order_without xs y ys h.0, λ e. each_without Waits xs y ys (h.1 e))

-- where one waits that stands before none that goes at once, all wait
pub all_wait : (xs : List Held) (y : Held) (ys : List Held) → AreInOrder (xs ++ y ∷ ys) → AllByRecursion Waits xs
    → goes_at_once y.fate ≡ false → AllByRecursion Waits (xs ++ y ∷ ys)
all_wait [] y ys h w e = (e, h.1 e)
all_wait (x ∷ xs) y ys h w e = (w.0, h.1 w.0)

pub order_with : (f : Fate) (y : Held) (xs : List Held) → y.fate ≡ f → AllByRecursion Waits xs
    → AreInOrder (held_with f y xs)
order_with Lost y xs e w = order_from_waiting xs w
order_with Twice y xs e w =
    let once : goes_at_once y.fate ≡ true = ap goes_at_once e in
    ((order_from_waiting xs w, λ n. w), λ n. let both : true ≡ false = sym once ∙ n in absurd cc)
order_with Swapped y xs e w =
    order_from_waiting (xs ++ y ∷ []) (each_appended Waits xs (y ∷ []) w (ap goes_at_once e, tt))
order_with Late y xs e w =
    order_from_waiting (xs ++ y ∷ []) (each_appended Waits xs (y ∷ []) w (ap goes_at_once e, tt))
order_with Passes y xs e w = (order_from_waiting xs w, λ n. w)

-- ---- of one device

consed : {X : Type 0} (b : Bool) (x : X) (xs ys zs : List X) → zs ≡ xs ++ ys
    → cond b (x ∷ zs) zs ≡ cond b (x ∷ xs) xs ++ ys
consed true x xs ys zs h = ap (λ t. x ∷ t) h
consed false x xs ys zs h = h

filter_append : {X : Type 0} (p : X → Bool) (xs ys : List X) → filter p (xs ++ ys) ≡ filter p xs ++ filter p ys
filter_append p [] ys = refl
filter_append p (x ∷ xs) ys =
    consed (p x) x (filter p xs) (filter p ys) (filter p (xs ++ ys)) (filter_append p xs ys)

pub own_one : (e : ℕ) (h : Held) (xs : List Held) → h.device ≡ e → held_by e (h ∷ xs) ≡ h ∷ held_by e xs
own_one e h xs is = ap (λ b. cond b (h ∷ held_by e xs) (held_by e xs)) (eq-eqb h.device e is)

pub other_one : (e : ℕ) (h : Held) (xs : List Held) → (h.device ≡ e → ⊥) → held_by e (h ∷ xs) ≡ held_by e xs
other_one e h xs is = ap (λ b. cond b (h ∷ held_by e xs) (held_by e xs)) (ne_eqb h.device e is)

pub own_around : (e : ℕ) (xs : List Held) (h : Held) (ys : List Held) → h.device ≡ e
    → held_by e (xs ++ h ∷ ys) ≡ held_by e xs ++ h ∷ held_by e ys
own_around e xs h ys is =
    filter_append (λ x. x.device == e) xs (h ∷ ys) ∙ ap (λ t. held_by e xs ++ t) (own_one e h ys is)

pub other_around : (e : ℕ) (xs : List Held) (h : Held) (ys : List Held) → (h.device ≡ e → ⊥)
    → held_by e (xs ++ h ∷ ys) ≡ held_by e (xs ++ ys)
other_around e xs h ys is =
    filter_append (λ x. x.device == e) xs (h ∷ ys) ∙ ap (λ t. held_by e xs ++ t) (other_one e h ys is)
    ∙ sym (filter_append (λ x. x.device == e) xs ys)

pub by_append : (e : ℕ) (xs ys : List Held) → held_by e (xs ++ ys) ≡ held_by e xs ++ held_by e ys
by_append e xs ys = filter_append (λ x. x.device == e) xs ys

pub own_with : (f : Fate) (e : ℕ) (h : Held) (xs : List Held) → h.device ≡ e
    → held_by e (held_with f h xs) ≡ held_with f h (held_by e xs)
own_with Lost e h xs is = refl
own_with Twice e h xs is = own_one e h (h ∷ xs) is ∙ ap (λ t. h ∷ t) (own_one e h xs is)
own_with Swapped e h xs is = by_append e xs (h ∷ []) ∙ ap (λ t. held_by e xs ++ t) (own_one e h [] is)
own_with Late e h xs is = by_append e xs (h ∷ []) ∙ ap (λ t. held_by e xs ++ t) (own_one e h [] is)
own_with Passes e h xs is = own_one e h xs is

nil_right : {X : Type 0} (xs : List X) → xs ++ [] ≡ xs
nil_right [] = refl
nil_right (x ∷ xs) = ap (λ t. x ∷ t) (nil_right xs)

pub other_with : (f : Fate) (e : ℕ) (h : Held) (xs : List Held) → (h.device ≡ e → ⊥)
    → held_by e (held_with f h xs) ≡ held_by e xs
other_with Lost e h xs is = refl
other_with Twice e h xs is = other_one e h (h ∷ xs) is ∙ other_one e h xs is
other_with Swapped e h xs is =
    by_append e xs (h ∷ []) ∙ ap (λ t. held_by e xs ++ t) (other_one e h [] is) ∙ nil_right (held_by e xs)
other_with Late e h xs is =
    by_append e xs (h ∷ []) ∙ ap (λ t. held_by e xs ++ t) (other_one e h [] is) ∙ nil_right (held_by e xs)
other_with Passes e h xs is = other_one e h xs is
