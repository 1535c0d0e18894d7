-- A row makes no end of steps up to a second: in each pass a second goes by.
use Rattle.std.proofs.Common.{◌≡◌, ℕ, suc, ◌+◌, ◌-◌, ◌*◌, ◌^◌, ◌<◌, ◌≤◌, nat_le, cond, Bool, true, false}
use Rattle.std.proofs.Common.{◌||◌, List, [], ◌∷◌, length, drop, slice_get, Option, None, Some, refl, sym, ap, subst, ◌∙◌, arith}
use Rattle.std.proofs.Math.ListN.{drop_of_length-le}
use Rattle.std.proofs.Math.Nat.{mul-le-mul_left}
use Rattle.std.proofs.lemmas.Bool.{leb-true, and_parts}
use Rattle.std.proofs.lemmas.List.{length-drop}
use Rattle.std.specs.List.{list_any}
use Rattle.std.specs.Option.{MatchOption}
use Rattle.lemmas.proofs.Lists.{drop_opens}
use Rattle.device_machine.specs.declared.event.Event.TheVariants.{Recv, Put, Firmware, Tick}
use Rattle.scenario_image.specs.declared.step.Step.{Step}
use Rattle.scenario_image.specs.declared.step.Step.TheVariants.{Event, Post, Need}
use Rattle.fleet_link.specs.declared.row.PlayedRow.{PlayedRow}
use Rattle.fleet_link.specs.declared.row.RowState.TheVariants.{Due}
use Rattle.fleet_link.specs.Playing.{ends_pass, is_endless, row_state, second_after, takes_time, IsAdvanced}
use Rattle.fleet_link.proofs.Stepped.{due_second}

-- how many steps there are before the next one in which a second passes; after the last one there are so many more
abbrev pub to_tick : List Step → ℕ → ℕ
to_tick [] more = more
to_tick (step ∷ steps) more = cond (takes_time step) 0 (to_tick steps more + 1)

-- how many seconds there are up to one
abbrev pub seconds_to : ℕ → Option ℕ → ℕ
seconds_to now None = 0
seconds_to now (Some n) = now + 1 - n

-- those after the last step of a pass
abbrev pub in_next_pass : PlayedRow → ℕ
in_next_pass row = cond (is_endless row.repeated row.steps.items) (to_tick row.steps.items 0) 0

abbrev pub before_tick : PlayedRow → ℕ
before_tick row = to_tick (drop row.place row.steps.items) (in_next_pass row)

-- more than the steps that are made up to a second
abbrev pub steps_left : ℕ → PlayedRow → ℕ
steps_left now row = seconds_to now row.second * (2 * length row.steps.items + 1) + before_tick row

drop_none : (steps : List Step) → drop 0 steps ≡ steps
drop_none [] = refl
drop_none (step ∷ steps) = refl

few : (steps : List Step) (more : ℕ) → to_tick steps more ≤ length steps + more
few [] more = omega arith
few (step ∷ steps) more = at (takes_time step) (few steps more)
  where
    at : (b : Bool) → to_tick steps more ≤ length steps + more
        → cond b 0 (to_tick steps more + 1) ≤ suc (length steps) + more
    at true rest = omega arith
    at false rest = omega (arith, rest)

same : (steps : List Step) (a b : ℕ) → list_any takes_time steps ≡ true → to_tick steps a ≡ to_tick steps b
same [] a b h = let e : false ≡ true = h in absurd cc
same (step ∷ steps) a b h = at (takes_time step) h (λ k. same steps a b k)
  where
    at : (t : Bool) → (t || list_any takes_time steps) ≡ true
        → (list_any takes_time steps ≡ true → to_tick steps a ≡ to_tick steps b)
        → cond t 0 (to_tick steps a + 1) ≡ cond t 0 (to_tick steps b + 1)
    at true k rest = refl
    at false k rest = ap (λ n. n + 1) (rest k)

pub left_few : (row : PlayedRow) → before_tick row ≤ 2 * length row.steps.items
left_few row =
    let all = row.steps.items in
    let rest = few (drop row.place all) (in_next_pass row) in
    let short = length-drop row.place all in
    let next = at (is_endless row.repeated all) in
    omega (arith, rest, short, next)
  where
    at : (b : Bool) → cond b (to_tick row.steps.items 0) 0 ≤ length row.steps.items
    at true = let k = few row.steps.items 0 in omega (arith, k)
    at false = omega arith

passes : (n : ℕ) (step : Step) → n + cond (takes_time step) 1 0 ≤ second_after n step
passes n (Event (Recv server bytes)) = omega arith
passes n (Event (Put path value)) = omega arith
passes n (Event (Firmware code)) = omega arith
passes n (Event (Tick seconds)) = at (nat_le 1 seconds) refl
  where
    at : (b : Bool) → nat_le 1 seconds ≡ b → n + cond b 1 0 ≤ n + seconds
    at true is = let le = leb-true 1 seconds is in omega (arith, le)
    at false is = omega arith
passes n (Post group) = omega arith
passes n (Need group count) = omega arith

-- seconds are left for its next step, and fewer after it
seconds_fall : (now due : ℕ) (second : Option ℕ) (step : Step) → due ≤ now
    → MatchOption second (2 ^ 64 ≤ second_after due step) (λ d. d ≡ second_after due step)
    → seconds_to now second + cond (takes_time step) 1 0 ≤ now + 1 - due
seconds_fall now due None step le h = at (takes_time step)
  where
    at : (b : Bool) → 0 + cond b 1 0 ≤ now + 1 - due
    at true = omega (arith, le)
    at false = omega arith
seconds_fall now due (Some d) step le h =
    let more = passes due step in
    let few = at (takes_time step) in
    omega (arith, le, h, more, few)
  where
    at : (b : Bool) → cond b 1 0 ≤ 1
    at true = omega arith
    at false = omega arith

-- the next one is a step nearer
nearer : (old new : PlayedRow) (step : Step) → slice_get old.steps.items old.place ≡ Some step
    → IsAdvanced step old new → takes_time step ≡ false → before_tick new + 1 ≡ before_tick old
nearer old new step at h still = opened ∙ sym at_old
  where
    at_old : before_tick old ≡ to_tick (drop (suc old.place) old.steps.items) (in_next_pass old) + 1
    at_old =
        ap (λ l. to_tick l (in_next_pass old)) (drop_opens old.steps.items old.place step at)
        ∙ ap (λ b. cond b 0 (to_tick (drop (suc old.place) old.steps.items) (in_next_pass old) + 1)) still

    same_next : in_next_pass new ≡ in_next_pass old
    same_next =
        ap (λ b. cond (is_endless b new.steps.items) (to_tick new.steps.items 0) 0) h.repeated
        ∙ ap (λ v. cond (is_endless old.repeated v.items) (to_tick v.items 0) 0) h.steps

    by_end : (b : Bool) → ends_pass old ≡ b
        → to_tick (drop new.place old.steps.items) (in_next_pass old)
        ≡ to_tick (drop (suc old.place) old.steps.items) (in_next_pass old)
    by_end true is =
        let tests = and_parts (nat_le (length old.steps.items) (old.place + 1)) _ is in
        let last : length old.steps.items ≤ suc old.place =
        omega (arith, leb-true (length old.steps.items) (old.place + 1) tests.0) in
        let place : new.place ≡ 0 = h.place ∙ ap (λ b. cond b 0 (old.place + 1)) is in
        let any = and_parts old.repeated (list_any takes_time old.steps.items) tests.1 in
        ap (λ n. to_tick (drop n old.steps.items) (in_next_pass old)) place
        ∙ ap (λ l. to_tick l (in_next_pass old)) (drop_none old.steps.items)
        ∙ same old.steps.items (in_next_pass old) 0 any.1
        ∙ sym (ap (λ b. cond b (to_tick old.steps.items 0) 0) tests.1)
        ∙ sym (ap (λ l. to_tick l (in_next_pass old)) (drop_of_length-le old.steps.items last))
    by_end false is =
        let place : new.place ≡ suc old.place =
        h.place ∙ ap (λ b. cond b 0 (old.place + 1)) is ∙ omega arith in
        ap (λ n. to_tick (drop n old.steps.items) (in_next_pass old)) place

    opened : before_tick new + 1 ≡ to_tick (drop (suc old.place) old.steps.items) (in_next_pass old) + 1
    opened =
        ap (λ n. n + 1)
        (ap (λ v. to_tick (drop new.place v.items) (in_next_pass new)) h.steps
        ∙ ap (to_tick (drop new.place old.steps.items)) same_next ∙ by_end (ends_pass old) refl)

pub fewer_left : (now due : ℕ) (old new : PlayedRow) (step : Step) → row_state old ≡ Due due → due ≤ now
    → slice_get old.steps.items old.place ≡ Some step → IsAdvanced step old new
    → steps_left now new < steps_left now old
fewer_left now due old new step is le at h = by_step (takes_time step) refl
  where
    was : old.second ≡ Some due
    was = due_second old.second (slice_get old.steps.items old.place) due is

    before : seconds_to now old.second ≡ now + 1 - due
    before = ap (seconds_to now) was

    count : length new.steps.items ≡ length old.steps.items
    count = ap (λ v. length v.items) h.steps

    falls : seconds_to now new.second + cond (takes_time step) 1 0 ≤ now + 1 - due
    falls = seconds_fall now due new.second step le (h.second due was)

    by_step : (b : Bool) → takes_time step ≡ b → steps_left now new < steps_left now old
    by_step true t =
        let one : 1 ≤ cond (takes_time step) 1 0 = subst (λ b. 1 ≤ cond b 1 0) (sym t) (omega arith) in
        let less : seconds_to now new.second + 1 ≤ seconds_to now old.second =
        omega (arith, one, falls, before) in
        let product : (2 * length old.steps.items + 1) * (seconds_to now new.second + 1)
        ≤ (2 * length old.steps.items + 1) * seconds_to now old.second =
        mul-le-mul_left (2 * length old.steps.items + 1) less in
        let short = left_few new in
        let same_all : seconds_to now new.second * (2 * length new.steps.items + 1)
        ≡ seconds_to now new.second * (2 * length old.steps.items + 1) =
        ap (λ n. seconds_to now new.second * (2 * n + 1)) count in
        omega (arith, product, short, count, same_all)
    by_step false t =
        let less : seconds_to now new.second ≤ seconds_to now old.second = omega (arith, falls, before) in
        let product : (2 * length old.steps.items + 1) * seconds_to now new.second
        ≤ (2 * length old.steps.items + 1) * seconds_to now old.second =
        mul-le-mul_left (2 * length old.steps.items + 1) less in
        let near = nearer old new step at h t in
        let same_all : seconds_to now new.second * (2 * length new.steps.items + 1)
        ≡ seconds_to now new.second * (2 * length old.steps.items + 1) =
        ap (λ n. seconds_to now new.second * (2 * n + 1)) count in
        omega (arith, product, near, same_all)
