-- A row, one step further: it is under way as before, and its step is made at its second.
use Rattle.std.proofs.Common.{◌≡◌, ◌⊎◌, inl, inr, ℕ, ◌+◌, ◌-◌, ◌*◌, ◌^◌, ◌<◌, ◌≤◌, nat_le, min, cond, Bool, true, false, ◌&&◌}
use Rattle.std.proofs.Common.{List, [], ◌∷◌, ◌++◌, length, slice_get, Option, None, Some, refl, sym, ap, subst, ◌∙◌, arith}
use Rattle.std.proofs.Math.Nat.{mul-le-mul_left}
use Rattle.std.proofs.lemmas.Bool.{cases_lt, leb-true, and_parts, leb-false}
use Rattle.std.proofs.lemmas.Option.{slice_get_within}
use Rattle.std.specs.Option.{MatchOption}
use Rattle.lemmas.proofs.Lists.{length_pushed, pushed_cases}
use Rattle.device_machine.specs.declared.event.Event.TheVariants.{Recv, Put, Firmware, Tick}
use Rattle.scenario_image.specs.declared.step.Step.{Step}
use Rattle.scenario_image.specs.declared.step.Step.TheVariants.{Event, Post, Need}
use Rattle.fleet_link.specs.declared.row.PlayedRow.{PlayedRow}
use Rattle.fleet_link.specs.Playing.{change_at, change_in, changes_by, changes_of, ends_pass, happened_count, happened_of}
use Rattle.fleet_link.specs.Playing.{is_endless, second_after, second_by, second_of_row, AreBy, ComesTo, HasHappenedBy}
use Rattle.fleet_link.specs.Playing.{IsAdvanced, IsAtSecond, IsRowStep, IsUnderWay}
use Rattle.fleet_link.proofs.Served.{changes_push, second_push}

-- ---- tests

and_first : (a b : Bool) → (a && b) ≡ false → b ≡ true → a ≡ false
and_first false b h e = refl
and_first true b h e = let k : false ≡ true = sym h ∙ e in absurd cc

-- ---- places of passes

-- in passes of this length each number is counted in one way
pub one_way : (all t u i p : ℕ) → i < all → p < all → t * all + i ≡ u * all + p → (t ≡ u) × (i ≡ p)
one_way all t u i p a b e = by_order (cases_lt t u) (cases_lt u t)
  where
    short : (x y j k : ℕ) → x < y → j < all → x * all + j ≡ y * all + k → ⊥
    short x y j k l m q =
        let next : x + 1 ≤ y = omega (arith, l) in
        let more : all * (x + 1) ≤ all * y = mul-le-mul_left all next in
        omega (arith, more, m, q)

    by_order : (t < u) ⊎ (u ≤ t) → (u < t) ⊎ (t ≤ u) → (t ≡ u) × (i ≡ p)
    by_order (inl l) o = absurd (short t u i p l a e)
    by_order (inr le) (inl l) = absurd (short u t p i l b (sym e))
    by_order (inr le) (inr ge) =
        let same : t ≡ u = omega (arith, le, ge) in
        let k : t * all ≡ u * all = ap (λ n. n * all) same in
        (same, omega (arith, e, k))

-- ---- what has happened

pub advanced_count : (step : Step) (old new : PlayedRow) → IsAdvanced step old new
    → happened_count new ≡ happened_count old + 1
advanced_count step old new h = omega (arith, ap length h.happened, length_pushed (happened_of old) step)

pub advanced_changes : (step : Step) (old new : PlayedRow) → IsAdvanced step old new
    → changes_of new ≡ changes_of old ++ change_at (second_of_row old) (change_in step)
advanced_changes step old new h = ap (changes_by 0) h.happened ∙ changes_push 0 (happened_of old) step

pub advanced_second : (step : Step) (old new : PlayedRow) → IsAdvanced step old new
    → second_of_row new ≡ second_after (second_of_row old) step
advanced_second step old new h = ap (second_by 0) h.happened ∙ second_push 0 (happened_of old) step

pub not_earlier : (n : ℕ) (step : Step) → n ≤ second_after n step
not_earlier n (Event (Recv server bytes)) = omega arith
not_earlier n (Event (Put path value)) = omega arith
not_earlier n (Event (Firmware code)) = omega arith
not_earlier n (Event (Tick seconds)) = omega arith
not_earlier n (Post group) = omega arith
not_earlier n (Need group count) = omega arith

pub advanced_next : (step : Step) (old new : PlayedRow) → IsAdvanced step old new → IsAtSecond old → IsAtSecond new
advanced_next step old new h at = by_second old.second refl at
  where
    sum : second_of_row new ≡ second_after (second_of_row old) step
    sum = advanced_second step old new h

    by_second : (o : Option ℕ) → old.second ≡ o
        → MatchOption o (2 ^ 64 ≤ second_of_row old) (λ d. d ≡ second_of_row old) → IsAtSecond new
    by_second None is le =
        let grown = not_earlier (second_of_row old) step in
        subst (λ o. MatchOption o (2 ^ 64 ≤ second_of_row new) (λ d. d ≡ second_of_row new)) (sym (h.none is))
        (omega (arith, le, sum, grown))
    by_second (Some n) is e =
        let q : second_after n step ≡ second_of_row new = ap (λ m. second_after m step) e ∙ sym sum in
        subst (λ m. MatchOption new.second (2 ^ 64 ≤ m) (λ d. d ≡ m)) q (h.second n is)

by_push : (latest n : ℕ) (steps : List Step) (step : Step) → AreBy latest n steps → second_by n steps ≤ latest
    → AreBy latest n (steps ++ step ∷ [])
by_push latest n [] step h le = (le, tt)
by_push latest n (x ∷ steps) step h le = (h.0, by_push latest (second_after n x) steps step h.1 le)

pub advanced_made : (step : Step) (old new : PlayedRow) (latest : ℕ) → IsAdvanced step old new
    → second_of_row old ≤ latest → HasHappenedBy latest old → HasHappenedBy latest new
advanced_made step old new latest h le made =
    subst (AreBy latest 0) (sym h.happened) (by_push latest 0 (happened_of old) step made le)

pub by_later : (now later n : ℕ) (steps : List Step) → now ≤ later → AreBy now n steps → AreBy later n steps
by_later now later n [] le h = tt
by_later now later n (step ∷ steps) le h =
    (omega (arith, h.0, le), by_later now later (second_after n step) steps le h.1)

-- ---- under way

pub advanced_under_way : (own : List Step) (said step : Step) (old new : PlayedRow) → IsAdvanced step old new
    → slice_get old.steps.items old.place ≡ Some said → ComesTo said step → IsUnderWay own old → IsUnderWay own new
advanced_under_way own said step old new h at comes u = by_end (ends_pass old) refl
  where
    here : slice_get own old.place ≡ Some said
    here = ap (λ l. slice_get l old.place) (sym u.steps) ∙ at

    inside : old.place < length own
    inside = slice_get_within own old.place said here

    count : happened_count new ≡ happened_count old + 1
    count = advanced_count step old new h

    steps : new.steps.items ≡ own
    steps = ap (λ v. v.items) h.steps ∙ u.steps

    endless : is_endless new.repeated own ≡ is_endless old.repeated own
    endless = ap (λ b. is_endless b own) h.repeated

    by_place : (k : ℕ) (x y : Step) → IsRowStep own k x
        → (slice_get (happened_of old) k ≡ Some y) ⊎ ((k ≡ happened_count old) × (step ≡ y)) → ComesTo x y
    by_place k x y r (inl before) = u.happened k x y r before
    by_place k x y r (inr (place, is)) =
        let same = one_way (length own) r.turn u.turns r.place old.place (slice_get_within own r.place x r.step) inside
        (sym r.at ∙ place ∙ u.count) in
        let e : Some x ≡ Some said = sym r.step ∙ ap (slice_get own) same.1 ∙ here in
        let is_said : said ≡ x = cc in
        subst (ComesTo x) is (subst (λ z. ComesTo z step) is_said comes)

    happened : (k : ℕ) (x y : Step) → IsRowStep own k x → slice_get (happened_of new) k ≡ Some y → ComesTo x y
    happened k x y r got =
        by_place k x y r
        (pushed_cases (happened_of old) step k y (ap (λ l. slice_get l k) (sym h.happened) ∙ got))

    by_end : (b : Bool) → ends_pass old ≡ b → IsUnderWay own new
    by_end true is =
        let tests = and_parts (nat_le (length old.steps.items) (old.place + 1)) _ is in
        let last : length old.steps.items ≤ old.place + 1 = leb-true _ _ tests.0 in
        let turns : is_endless new.repeated own ≡ true =
        endless ∙ ap (is_endless old.repeated) (sym u.steps) ∙ tests.1 in
        let place : new.place ≡ 0 = h.place ∙ ap (λ b. cond b 0 (old.place + 1)) is in
        let passes : new.passes ≡ min (old.passes + 1) (2 ^ 64 - 1) =
        h.passes ∙ ap (λ b. cond b (min (old.passes + 1) (2 ^ 64 - 1)) old.passes) is in
        record {
          steps = steps;
          turns = u.turns + 1;
          count = omega (arith, count, u.count, place, last, inside, ap length u.steps);
          passes = omega (arith, passes, u.passes);
          within = omega (arith, place);
          once = λ e. let k : true ≡ false = sym turns ∙ e in absurd cc;
          anew = λ e. omega (arith, place, inside);
          happened = happened;
          second = advanced_next step old new h u.second;
        }
    by_end false is =
        let place : new.place ≡ old.place + 1 = h.place ∙ ap (λ b. cond b 0 (old.place + 1)) is in
        let passes : new.passes ≡ old.passes =
        h.passes ∙ ap (λ b. cond b (min (old.passes + 1) (2 ^ 64 - 1)) old.passes) is in
        record {
          steps = steps;
          turns = u.turns;
          count = omega (arith, count, u.count, place);
          passes = passes ∙ u.passes;
          within = omega (arith, place, inside);
          once = λ e. u.once (sym endless ∙ e);
          anew = λ e.
              let turns : is_endless old.repeated old.steps.items ≡ true =
              ap (is_endless old.repeated) u.steps ∙ sym endless ∙ e in
              let more = leb-false (length old.steps.items) (old.place + 1) (and_first _ _ is turns) in
              omega (arith, more, place, ap length u.steps);
          happened = happened;
          second = advanced_next step old new h u.second;
        }
