-- The posts of a row, in all its passes.
use Rattle.std.proofs.Common.{◌≡◌, ◌⊎◌, inl, inr, ℕ, zero, suc, ◌+◌, ◌-◌, ◌*◌, ◌^◌, ◌<◌, ◌≤◌, nat_le, min, cond, Bool, true}
use Rattle.std.proofs.Common.{false, ◌&&◌, List, [], ◌∷◌, ◌++◌, length, take, drop, slice_get, None, Some, refl, sym, ap}
use Rattle.std.proofs.Common.{◌∙◌, arith}
use Rattle.std.proofs.Math.Nat.{mul-le-mul_left}
use Rattle.std.proofs.lemmas.Bool.{cases_lt, le-leb}
use Rattle.std.proofs.lemmas.List.{length-drop, length-take, take-append-drop}
use Rattle.std.proofs.lemmas.List.Sums.{sum_by-append, sum_by-take-le}
use Rattle.lemmas.proofs.Lists.{take_none, take_one_more}
use Rattle.fleet_core.specs.Run.{posts_to}
use Rattle.scenario_image.specs.declared.step.Step.{Step}
use Rattle.scenario_image.specs.declared.step.Step.TheVariants.{Event, Post, Need}
use Rattle.fleet_link.specs.declared.row.PlayedRow.{PlayedRow}
use Rattle.fleet_link.specs.Playing.{ends_pass, happened_of, posts_among, posts_by, posts_in, posts_made, second_after}
use Rattle.fleet_link.specs.Playing.{AreBy, ComesTo, HasHappenedBy, IsAdvanced, IsRowStep, IsUnderWay}

-- ---- posts among steps

among_both : (group : ℕ) (a b : List Step) → posts_among group (a ++ b) ≡ posts_among group a + posts_among group b
among_both group a b = sum_by-append (λ (x : Step). cond (posts_to group x) 1 0) a b

among_more : (group : ℕ) (step : Step) (steps : List Step)
    → posts_among group (step ∷ steps) ≡ cond (posts_to group step) 1 0 + posts_among group steps
among_more group step steps = omega (arith, among_both group (step ∷ []) steps)

among_first : (group n : ℕ) (steps : List Step) → posts_among group (take n steps) ≤ posts_among group steps
among_first group n steps = sum_by-take-le (λ (x : Step). cond (posts_to group x) 1 0) steps n

comes_post : (group : ℕ) (said step : Step) → ComesTo said step → posts_to group step ≡ posts_to group said
comes_post group (Event event) step h = ap (posts_to group) h
comes_post group (Post other) step h = ap (posts_to group) h
comes_post group (Need other count) step h = ap (posts_to group) h.1

-- what steps come to has their posts
same_posts : (group : ℕ) (said steps : List Step) → length steps ≡ length said
    → ((i : ℕ) (x y : Step) → slice_get said i ≡ Some x → slice_get steps i ≡ Some y → ComesTo x y)
    → posts_among group steps ≡ posts_among group said
same_posts group [] [] e h = refl
same_posts group [] (y ∷ ys) e h = absurd (omega (arith, e))
same_posts group (x ∷ xs) [] e h = absurd (omega (arith, e))
same_posts group (x ∷ xs) (y ∷ ys) e h =
    let rest = same_posts group xs ys (omega (arith, e)) (λ i a b p q. h (suc i) a b p q) in
    among_more group y ys
    ∙ ap (λ b. cond b 1 0 + posts_among group ys) (comes_post group x y (h 0 x y refl refl))
    ∙ ap (λ n. cond (posts_to group x) 1 0 + n) rest ∙ sym (among_more group x xs)

-- ---- pass after pass

none_taken : {X : Type 0} (n i : ℕ) → slice_get {X = X} (take n []) i ≡ None
none_taken zero i = refl
none_taken (suc n) i = refl

pub take_at : {X : Type 0} (xs : List X) (n i : ℕ) (x : X) → slice_get (take n xs) i ≡ Some x → slice_get xs i ≡ Some x
take_at {X = X} [] n i x h = let q : None ≡ Some x = sym (none_taken {X = X} n i) ∙ h in absurd cc
take_at (y ∷ ys) zero i x h = let q : None ≡ Some x = h in absurd cc
take_at (y ∷ ys) (suc n) zero x h = h
take_at (y ∷ ys) (suc n) (suc i) x h = take_at ys n i x h

pub drop_at : {X : Type 0} (xs : List X) (n i : ℕ) → slice_get (drop n xs) i ≡ slice_get xs (n + i)
drop_at [] zero i = refl
drop_at [] (suc n) i = refl
drop_at (x ∷ xs) zero i = let e : 0 + i ≡ i = omega arith in ap (slice_get (x ∷ xs)) (sym e)
drop_at (x ∷ xs) (suc n) i =
    let e : suc n + i ≡ suc (n + i) = omega arith in drop_at xs n i ∙ ap (slice_get (x ∷ xs)) (sym e)

turned_posts : (group turns : ℕ) (own steps : List Step) (place : ℕ) → length steps ≡ turns * length own + place
    → place ≤ length own
    → ((k : ℕ) (x y : Step) → IsRowStep own k x → slice_get steps k ≡ Some y → ComesTo x y)
    → posts_among group steps ≡ turns * posts_among group own + posts_among group (take place own)
turned_posts group zero own steps place count le h =
    let short : length (take place own) ≡ place = omega (arith, length-take place own, le) in
    let so : posts_among group steps ≡ posts_among group (take place own) =
    same_posts group (take place own) steps (omega (arith, count, short))
    (λ i x y p q. h i x y (record { turn = 0; place = i; at = omega arith; step = take_at own place i x p }) q) in
    omega (arith, so)
turned_posts group (suc turns) own steps place count le h =
    let all = length own in
    let long : all ≤ length steps = omega (arith, count) in
    let first : posts_among group (take all steps) ≡ posts_among group own =
    same_posts group own (take all steps) (omega (arith, length-take all steps, long))
    (λ i x y p q. h i x y (record { turn = 0; place = i; at = omega arith; step = p }) (take_at steps all i y q)) in
    let rest : posts_among group (drop all steps) ≡ turns * posts_among group own + posts_among group (take place own) =
    turned_posts group turns own (drop all steps) place (omega (arith, length-drop all steps, count)) le
    (λ k x y r q. h (all + k) x y
    (record { turn = r.turn + 1; place = r.place; at = omega (arith, r.at); step = r.step })
    (sym (drop_at steps all k) ∙ q)) in
    let both : posts_among group steps ≡ posts_among group (take all steps) + posts_among group (drop all steps) =
    ap (posts_among group) (sym (take-append-drop all steps)) ∙ among_both group (take all steps) (drop all steps) in
    omega (arith, first, rest, both)

by_posts : (group latest n : ℕ) (steps : List Step) → AreBy latest n steps
    → posts_by group latest n steps ≡ posts_among group steps
by_posts group latest n [] h = refl
by_posts group latest n (step ∷ steps) h =
    let now : nat_le n latest ≡ true = le-leb n latest h.0 in
    ap (λ b. cond (posts_to group step && b) 1 0 + posts_by group latest (second_after n step) steps) now
    ∙ ap (λ b. cond b 1 0 + posts_by group latest (second_after n step) steps) (and_true (posts_to group step))
    ∙ ap (λ m. cond (posts_to group step) 1 0 + m) (by_posts group latest (second_after n step) steps h.1)
    ∙ sym (among_more group step steps)
  where
    and_true : (b : Bool) → (b && true) ≡ b
    and_true true = refl
    and_true false = refl

-- all posts that a row has made are made by then
pub made_posts : (own : List Step) (row : PlayedRow) (group now : ℕ) → IsUnderWay own row → HasHappenedBy now row
    → posts_made row group ≤ posts_in row group now
made_posts own row group now u made =
    let all : posts_in row group now ≡ posts_among group (happened_of row) =
    by_posts group now 0 (happened_of row) made in
    let turned = turned_posts group u.turns own (happened_of row) row.place u.count u.within u.happened in
    let whole : posts_among group own * row.passes ≤ posts_among group own * u.turns =
    mul-le-mul_left (posts_among group own) (few u.turns row.passes u.passes) in
    let is : posts_made row group ≡ row.passes * posts_among group own + posts_among group (take row.place own) =
    ap (λ l. row.passes * posts_among group l + posts_among group (take row.place l)) u.steps in
    omega (arith, all, turned, whole, is)
  where
    few : (turns passes : ℕ) → passes ≡ min turns (2 ^ 64 - 1) → passes ≤ turns
    few turns passes e = omega (arith, e)

-- ---- a row that has gone on has as many posts

-- as a number of 64 bits, which stays at its greatest one
abbrev capped : ℕ → ℕ
capped n = min n (2 ^ 64 - 1)

pub advanced_posts : (group : ℕ) (step said : Step) (old new : PlayedRow) → IsAdvanced step old new
    → slice_get old.steps.items old.place ≡ Some said
    → min (posts_made old group) (2 ^ 64 - 1) ≤ min (posts_made new group) (2 ^ 64 - 1)
advanced_posts group step said old new h at = by_end (ends_pass old) refl
  where
    all : ℕ
    all = posts_among group old.steps.items

    same : posts_made new group
        ≡ new.passes * posts_among group old.steps.items + posts_among group (take new.place old.steps.items)
    same = ap (λ v. new.passes * posts_among group v.items + posts_among group (take new.place v.items)) h.steps

    first : posts_among group (take old.place old.steps.items) ≤ posts_among group old.steps.items
    first = among_first group old.place old.steps.items

    none : (n p m : ℕ) → n ≡ 0 → p ≤ n → m ≡ m * n + p → m ≡ 0
    none n p m e l q = omega (arith, e, l, q, ap (λ k. m * k) e)

    whole : (passes count first : ℕ) → first ≤ count
        → min (passes * count + first) (2 ^ 64 - 1) ≤ min (min (passes + 1) (2 ^ 64 - 1) * count + 0) (2 ^ 64 - 1)
    whole passes zero first le = omega (arith, le)
    whole passes (suc count) first le = by_order (cases_lt passes (2 ^ 64 - 1))
      where
        by_order : (passes < 2 ^ 64 - 1) ⊎ (2 ^ 64 - 1 ≤ passes)
            → min (passes * suc count + first) (2 ^ 64 - 1)
            ≤ min (min (passes + 1) (2 ^ 64 - 1) * suc count + 0) (2 ^ 64 - 1)
        by_order (inl l) =
            let more : min (passes + 1) (2 ^ 64 - 1) ≡ passes + 1 = omega (arith, l) in
            let product : min (passes + 1) (2 ^ 64 - 1) * suc count ≡ (passes + 1) * suc count =
            ap (λ n. n * suc count) more in
            omega (arith, product, le)
        by_order (inr le) =
            let most : min (passes + 1) (2 ^ 64 - 1) ≡ 2 ^ 64 - 1 = omega (arith, le) in
            let product : min (passes + 1) (2 ^ 64 - 1) * suc count ≡ (2 ^ 64 - 1) * suc count =
            ap (λ n. n * suc count) most in
            omega (arith, product)

    by_end : (b : Bool) → ends_pass old ≡ b
        → min (posts_made old group) (2 ^ 64 - 1) ≤ min (posts_made new group) (2 ^ 64 - 1)
    by_end true is =
        let place : new.place ≡ 0 = h.place ∙ ap (λ b. cond b 0 (old.place + 1)) is in
        let passes : new.passes ≡ min (old.passes + 1) (2 ^ 64 - 1) =
        h.passes ∙ ap (λ b. cond b (min (old.passes + 1) (2 ^ 64 - 1)) old.passes) is in
        let empty : posts_among group (take new.place old.steps.items) ≡ 0 =
        ap (λ n. posts_among group (take n old.steps.items)) place
        ∙ ap (posts_among group) (take_none old.steps.items) in
        let product : new.passes * posts_among group old.steps.items
        ≡ min (old.passes + 1) (2 ^ 64 - 1) * posts_among group old.steps.items =
        ap (λ n. n * posts_among group old.steps.items) passes in
        let grown = whole old.passes (posts_among group old.steps.items)
        (posts_among group (take old.place old.steps.items)) first in
        omega (arith, same, empty, product, grown)
    by_end false is =
        let place : new.place ≡ old.place + 1 = h.place ∙ ap (λ b. cond b 0 (old.place + 1)) is in
        let passes : new.passes ≡ old.passes =
        h.passes ∙ ap (λ b. cond b (min (old.passes + 1) (2 ^ 64 - 1)) old.passes) is in
        let product : new.passes * posts_among group old.steps.items ≡ old.passes * posts_among group old.steps.items =
        ap (λ n. n * posts_among group old.steps.items) passes in
        let longer : posts_among group (take new.place old.steps.items)
        ≡ posts_among group (take old.place old.steps.items) + posts_among group (said ∷ []) =
        ap (λ n. posts_among group (take n old.steps.items)) place
        ∙ ap (posts_among group) (take_one_more old.steps.items old.place said at)
        ∙ among_both group (take old.place old.steps.items) (said ∷ []) in
        omega (arith, same, product, longer)
