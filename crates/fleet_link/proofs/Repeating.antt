-- What a row without needs does, pass after pass.
use Rattle.std.proofs.Common.{◌≡◌, ℕ, zero, suc, ◌+◌, ◌*◌, ◌≤◌, true, false, ◌||◌, List, [], ◌∷◌, ◌++◌, length, take}
use Rattle.std.proofs.Common.{drop}
use Rattle.std.proofs.Common.{slice_get, Some, refl, sym, ap, ◌∙◌, append_assoc, arith}
use Rattle.std.specs.List.{list_any}
use Rattle.std.proofs.lemmas.List.{length-drop, length-take, take-append-drop}
use Rattle.std.proofs.lemmas.Bool.{or_parts}
use Rattle.scenario_image.specs.declared.step.Step.{Step}
use Rattle.scenario_image.specs.declared.step.Step.TheVariants.{Event, Post, Need}
use Rattle.fleet_link.specs.declared.row.PlayedRow.{PlayedRow}
use Rattle.fleet_link.specs.Playing.{change_at, change_in, changes_by, happened_of, is_need, passes_of, second_after}
use Rattle.fleet_link.specs.Playing.{second_by, ComesTo, IsRowStep, IsUnderWay}
use Rattle.fleet_link.proofs.Posting.{drop_at, take_at}

-- ---- steps that come to themselves

comes_itself : (said step : Step) → is_need said ≡ false → ComesTo said step → step ≡ said
comes_itself (Event event) step free h = h
comes_itself (Post group) step free h = h
comes_itself (Need group count) step free h = let e : true ≡ false = free in absurd cc

free_first : (n : ℕ) (steps : List Step) → list_any is_need steps ≡ false → list_any is_need (take n steps) ≡ false
free_first zero [] h = refl
free_first (suc n) [] h = refl
free_first zero (step ∷ steps) h = refl
free_first (suc n) (step ∷ steps) h =
    let parts = or_parts (is_need step) (list_any is_need steps) h in
    ap (λ b. b || list_any is_need (take n steps)) parts.0 ∙ free_first n steps parts.1

same_steps : (said steps : List Step) → length steps ≡ length said → list_any is_need said ≡ false
    → ((i : ℕ) (x y : Step) → slice_get said i ≡ Some x → slice_get steps i ≡ Some y → ComesTo x y) → steps ≡ said
same_steps [] [] e free h = refl
same_steps [] (y ∷ ys) e free h = absurd (omega (arith, e))
same_steps (x ∷ xs) [] e free h = absurd (omega (arith, e))
same_steps (x ∷ xs) (y ∷ ys) e free h =
    let parts = or_parts (is_need x) (list_any is_need xs) free in
    let rest = same_steps xs ys (omega (arith, e)) parts.1 (λ i a b p q. h (suc i) a b p q) in
    ap (λ z. z ∷ ys) (comes_itself x y parts.0 (h 0 x y refl refl)) ∙ ap (λ l. x ∷ l) rest

-- ---- pass after pass

turned_steps : (turns : ℕ) (own steps : List Step) (place : ℕ) → length steps ≡ turns * length own + place
    → place ≤ length own → list_any is_need own ≡ false
    → ((k : ℕ) (x y : Step) → IsRowStep own k x → slice_get steps k ≡ Some y → ComesTo x y)
    → steps ≡ passes_of turns place own
turned_steps zero own steps place count le free h =
    let short : length (take place own) ≡ place = omega (arith, length-take place own, le) in
    same_steps (take place own) steps (omega (arith, count, short)) (free_first place own free)
    (λ i x y p q. h i x y (record { turn = 0; place = i; at = omega arith; step = take_at own place i x p }) q)
turned_steps (suc turns) own steps place count le free h =
    let all = length own in
    let long : all ≤ length steps = omega (arith, count) in
    let first : take all steps ≡ own =
    same_steps own (take all steps) (omega (arith, length-take all steps, long)) free
    (λ i x y p q. h i x y (record { turn = 0; place = i; at = omega arith; step = p }) (take_at steps all i y q)) in
    let rest : drop all steps ≡ passes_of turns place own =
    turned_steps turns own (drop all steps) place (omega (arith, length-drop all steps, count)) le free
    (λ k x y r q. h (all + k) x y
    (record { turn = r.turn + 1; place = r.place; at = omega (arith, r.at); step = r.step })
    (sym (drop_at steps all k) ∙ q)) in
    sym (take-append-drop all steps) ∙ ap (λ l. l ++ drop all steps) first ∙ ap (λ l. own ++ l) rest

pub passes_made : (own : List Step) (row : PlayedRow) (u : IsUnderWay own row) → list_any is_need own ≡ false
    → happened_of row ≡ passes_of u.turns row.place own
passes_made own row u free =
    turned_steps u.turns own (happened_of row) row.place u.count u.within free u.happened

-- ---- their changes

changes_append : (n : ℕ) (a b : List Step) → changes_by n (a ++ b) ≡ changes_by n a ++ changes_by (second_by n a) b
changes_append n [] b = refl
changes_append n (step ∷ a) b =
    ap (λ cs. change_at n (change_in step) ++ cs) (changes_append (second_after n step) a b)
    ∙ sym (append_assoc (change_at n (change_in step)) (changes_by (second_after n step) a)
    (changes_by (second_by (second_after n step) a) b))

pub passes_follow : (second turns place : ℕ) (own : List Step)
    → changes_by second (passes_of (turns + 1) place own)
    ≡ changes_by second own ++ changes_by (second_by second own) (passes_of turns place own)
passes_follow second turns place own =
    let more : turns + 1 ≡ suc turns = omega arith in
    ap (λ n. changes_by second (passes_of n place own)) more
    ∙ changes_append second own (passes_of turns place own)
