-- Posts that rows have made, and needs that are passed.
use Rattle.std.proofs.Common.{◌≡◌, ◌⊎◌, inl, inr, ℕ, zero, suc, ◌+◌, ◌-◌, ◌<◌, ◌≤◌, ◌^◌, Bool, false, List, [], ◌∷◌, ◌++◌}
use Rattle.std.proofs.Common.{get_or, min, Option, None, Some, take, length, slice_get, refl, sym, ap, subst, ◌∙◌, append-nil, arith}
use Rattle.std.specs.List.{slice_set, sum_by}
use Rattle.std.specs.Option.{MatchOption}
use Rattle.std.proofs.lemmas.Bool.{cases_lt}
use Rattle.std.proofs.lemmas.Grind.{take_at_read}
use Rattle.std.proofs.lemmas.List.{take-append-le, take_all}
use Rattle.std.proofs.lemmas.List.Sums.{sum_by-append, sum_by-set, sum_by_more_le, sum_by_push}
use Rattle.std.proofs.lemmas.Option.{slice_get_within}
use Rattle.device_machine.specs.declared.event.Event.TheVariants.{Tick}
use Rattle.device_template.specs.Template.{Template}
use Rattle.scenario_image.specs.declared.step.Step.{Step}
use Rattle.scenario_image.specs.declared.step.Step.TheVariants.{Event, Post, Need}
use Rattle.scenario_image.specs.Scenario.{Row, Scenario}
use Rattle.fleet_link.specs.declared.row.PlayedRow.{PlayedRow}
use Rattle.fleet_link.specs.declared.row.RowState.TheVariants.{Due, Ended, Waits}
use Rattle.fleet_link.specs.declared.slot.Slot.{Slot}
use Rattle.fleet_link.specs.Playing.{changes_of, happened_count, happened_of, played_steps, posts_by, posts_in}
use Rattle.fleet_link.specs.Playing.{posts_made, row_state, second_after, second_by, second_of_row, state_of, GoesOn}
use Rattle.fleet_link.specs.Playing.{HasHappenedBy, IsAtSecond, IsOnTime, IsPassed, IsRowStep, IsTimely, IsUnderWay}
use Rattle.fleet_link.specs.Serving.{all_posts, posts_of, IsRowServed, IsServed}
use Rattle.fleet_link.specs.Traffic.{Traffic}
use Rattle.fleet_link.proofs.Advanced.{advanced_changes, advanced_count, advanced_made, advanced_next, advanced_second}
use Rattle.fleet_link.proofs.Advanced.{advanced_under_way, one_way}
use Rattle.fleet_link.proofs.Posting.{advanced_posts}

-- ---- lists

got_or : {X : Type 0} (xs : List X) (i : ℕ) (x : X) → slice_get xs i ≡ Some x → get_or xs i x ≡ x
got_or [] i x at = let e : None ≡ Some x = at in absurd cc
got_or (z ∷ zs) zero x at = let e : Some z ≡ Some x = at in cc
got_or (z ∷ zs) (suc i) x at = got_or zs i x at

sum_set : {X : Type 0} (f : X → ℕ) (xs : List X) (i : ℕ) (x y : X) → slice_get xs i ≡ Some x → f x ≤ f y
    → sum_by f xs ≤ sum_by f (slice_set xs i y)
sum_set f xs i x y at le =
    let sums = sum_by-set f xs i y x (slice_get_within xs i x at) in
    omega (arith, sums, le, ap f (got_or xs i x at))

-- the sum at one place is as great, where numbers stay at the greatest one of 64 bits
pub sum_capped : {X : Type 0} (f : X → ℕ) (xs : List X) (i : ℕ) (x y : X) → slice_get xs i ≡ Some x
    → min (f x) (2 ^ 64 - 1) ≤ min (f y) (2 ^ 64 - 1)
    → min (sum_by f xs) (2 ^ 64 - 1) ≤ min (sum_by f (slice_set xs i y)) (2 ^ 64 - 1)
sum_capped f xs i x y at le =
    let within = slice_get_within xs i x at in
    let sums = sum_by-set f xs i y x within in
    let part = sum_by_more_le f xs i x within in
    omega (arith, sums, part, le, ap f (got_or xs i x at))

pub sum_less : {X : Type 0} (f g : X → ℕ) (xs : List X)
    → ((i : ℕ) (x : X) → slice_get xs i ≡ Some x → f x ≤ g x) → sum_by f xs ≤ sum_by g xs
sum_less f g [] h = omega arith
sum_less f g (x ∷ xs) h =
    let rest = sum_less f g xs (λ i y at. h (suc i) y at) in
    let here = h 0 x refl in
    omega (arith, rest, here, sum_by-append f (x ∷ []) xs, sum_by-append g (x ∷ []) xs)

-- ---- posts

posts_append : (group until n : ℕ) (a b : List Step)
    → posts_by group until n a ≤ posts_by group until n (a ++ b)
posts_append group until n [] b = omega arith
posts_append group until n (step ∷ a) b =
    let rest = posts_append group until (second_after n step) a b in omega (arith, rest)

posts_longer : (old new : PlayedRow) (more : List Step) → happened_of new ≡ happened_of old ++ more
    → (group until : ℕ) → posts_in old group until ≤ posts_in new group until
posts_longer old new more is group until =
    subst (λ l. posts_in old group until ≤ posts_by group until 0 l) (sym is)
    (posts_append group until 0 (happened_of old) more)

pub goes_posts : (latest : ℕ) (old new : PlayedRow) → GoesOn latest old new → (group until : ℕ)
    → posts_in old group until ≤ posts_in new group until
goes_posts latest old new h group until = posts_longer old new h.more h.happened group until

pub passed_posts : (name posts now : ℕ) (old new : PlayedRow) → IsPassed name posts now old new → (group until : ℕ)
    → posts_in old group until ≤ posts_in new group until
passed_posts name posts now old new h group until =
    posts_longer old new (Event (Tick (now - h.second)) ∷ []) h.advanced.happened group until

pub posts_grow : (slots : List Slot) (place : ℕ) (slot new : Slot) (group until : ℕ)
    → slice_get slots place ≡ Some slot → posts_in slot.row group until ≤ posts_in new.row group until
    → posts_of slots group until ≤ posts_of (slice_set slots place new) group until
posts_grow slots place slot new group until at le =
    sum_set (λ (x : Slot). posts_in x.row group until) slots place slot new at le

-- ---- a need that is passed

pub passed_count : (name posts now : ℕ) (old new : PlayedRow) → IsPassed name posts now old new
    → happened_count new ≡ happened_count old + 1
passed_count name posts now old new h = advanced_count (Event (Tick (now - h.second))) old new h.advanced

pub passed_changes : (name posts now : ℕ) (old new : PlayedRow) → IsPassed name posts now old new
    → changes_of new ≡ changes_of old
passed_changes name posts now old new h =
    advanced_changes (Event (Tick (now - h.second))) old new h.advanced ∙ append-nil (changes_of old)

was_at : (name posts now : ℕ) (old new : PlayedRow) (h : IsPassed name posts now old new) → IsAtSecond old
    → h.second ≡ second_of_row old
was_at name posts now old new h at =
    subst (λ o. MatchOption o (2 ^ 64 ≤ second_of_row old) (λ d. d ≡ second_of_row old)) h.second_is at

passed_second : (name posts now : ℕ) (old new : PlayedRow) → IsPassed name posts now old new
    → IsAtSecond old → second_of_row new ≡ now
passed_second name posts now old new h at =
    let so = was_at name posts now old new h at in
    let sum : second_of_row new ≡ second_of_row old + (now - h.second) =
    advanced_second (Event (Tick (now - h.second))) old new h.advanced in
    omega (arith, so, sum, h.reached)

pub passed_made : (name posts now : ℕ) (old new : PlayedRow) → IsPassed name posts now old new → IsAtSecond old
    → HasHappenedBy now old → HasHappenedBy now new
passed_made name posts now old new h at made =
    let so = was_at name posts now old new h at in
    advanced_made (Event (Tick (now - h.second))) old new now h.advanced (omega (arith, so, h.reached)) made

timely_from : (o : Option ℕ) (next : Option Step) (second now : ℕ) → o ≡ Some now → second ≤ now
    → IsTimely second (state_of o next)
timely_from None next second now is le = tt
timely_from (Some n) None second now is le = tt
timely_from (Some n) (Some (Event event)) second now is le = let e : n ≡ now = cc in omega (arith, e, le)
timely_from (Some n) (Some (Post group)) second now is le = let e : n ≡ now = cc in omega (arith, e, le)
timely_from (Some n) (Some (Need group count)) second now is le = tt

passed_on_time : (name posts now second : ℕ) (old new : PlayedRow) → IsPassed name posts now old new
    → IsOnTime old second → second ≤ now → IsOnTime new second
passed_on_time name posts now second old new h time le =
    record {
      next = advanced_next (Event (Tick (now - h.second))) old new h.advanced time.next;
      timely = timely_from new.second (slice_get new.steps.items new.place) second now h.resumed le;
    }

passed_under_way : (own : List Step) (name posts now : ℕ) (old new : PlayedRow) → IsUnderWay own old
    → IsPassed name posts now old new → IsUnderWay own new
passed_under_way own name posts now old new u h =
    advanced_under_way own (Need name h.count) (Event (Tick (now - h.second))) old new h.advanced h.need
    (now - h.second, refl) u

-- posts that it has made, with the need that it has passed
pub passed_all : (name posts now group : ℕ) (old new : PlayedRow) → IsPassed name posts now old new
    → min (posts_made old group) (2 ^ 64 - 1) ≤ min (posts_made new group) (2 ^ 64 - 1)
passed_all name posts now group old new h =
    advanced_posts group (Event (Tick (now - h.second))) (Need name h.count) old new h.advanced h.need

-- the device of the row is served as before
pub passed_served : (class : Template) (own : List Step) (before after : Option Traffic) (old new : Slot)
    (row : PlayedRow) (name posts now : ℕ) → IsServed class own before old false after → old.second ≤ now
    → old.end ≡ None → (row ≡ old.row) ⊎ IsPassed name posts now old.row row
    → new ≡ record old { row = row } → IsServed class own before new false after
passed_served class own before after old new row name posts now h le on passed is =
    subst (λ x. IsServed class own before x false after) (sym is) (by_case passed)
  where
    by_case : (row ≡ old.row) ⊎ IsPassed name posts now old.row row
        → IsServed class own before (record old { row = row }) false after
    by_case (inl same) = subst (λ r. IsServed class own before (record old { row = r }) false after) (sym same) h
    by_case (inr p) =
        let s = h.serving in
        record {
          unheard = h.unheard;
          serving = record {
            steps = s.steps;
            failures = s.failures;
            told = s.told;
            clock = s.clock;
            each = s.each;
            changed = s.changed ∙ sym (passed_changes name posts now old.row row p);
            shows = s.shows;
            ended = s.ended;
            recorded = s.recorded;
          };
          row_is = passed_under_way own name posts now old.row row h.row_is p;
          on_time = λ e. passed_on_time name posts now old.second old.row row p (h.on_time e) le;
          heard = h.heard;
          due = h.due;
          later = h.later;
          memory = h.memory;
        }

-- ---- the row itself

waits_need : (o : Option ℕ) (next : Option Step) (group count : ℕ) → state_of o next ≡ Waits group count
    → next ≡ Some (Need group count)
waits_need None next group count h = let e : Ended ≡ Waits group count = h in absurd cc
waits_need (Some n) None group count h = let e : Ended ≡ Waits group count = h in absurd cc
waits_need (Some n) (Some (Event event)) group count h = let e : Due n ≡ Waits group count = h in absurd cc
waits_need (Some n) (Some (Post other)) group count h = let e : Due n ≡ Waits group count = h in absurd cc
waits_need (Some n) (Some (Need other many)) group count h =
    let e : Waits other many ≡ Waits group count = h in
    let a : other ≡ group = cc in
    let b : many ≡ count = cc in
    cc

pub waits_at : (row : PlayedRow) (group count : ℕ) → row_state row ≡ Waits group count
    → slice_get row.steps.items row.place ≡ Some (Need group count)
waits_at row group count h = waits_need row.second (slice_get row.steps.items row.place) group count h

pub waits_within : (row : PlayedRow) (group count : ℕ) → row_state row ≡ Waits group count
    → row.place < length row.steps.items
waits_within row group count h =
    slice_get_within row.steps.items row.place (Need group count) (waits_at row group count h)

-- ---- needs that were passed

pub same_row : (s : Scenario) (played : Bool) (e : ℕ) (before after : Option Traffic) (slot : Slot) (broken : Bool)
    (row : Row) → IsRowServed s played e before slot broken after → slice_get s.rows e ≡ Some row
    → IsUnderWay (played_steps played row.steps) slot.row
same_row s played e before after slot broken row h at =
    let e : Some row ≡ Some (record { class = h.row.place; steps = h.steps }) = sym at ∙ h.row.row in
    let same : h.steps ≡ row.steps = cc in
    subst (λ steps. IsUnderWay (played_steps played steps) slot.row) same h.served.row_is

-- no need is passed by a row that goes on
pub still_met : (latest : ℕ) (own : List Step) (old new : PlayedRow) (many : ℕ → ℕ → ℕ) → IsUnderWay own old
    → GoesOn latest old new
    → ((k group count : ℕ) → k < happened_count old → IsRowStep own k (Need group count)
    → count ≤ many group (second_by 0 (take (k + 1) (happened_of old))))
    → (k group count : ℕ) → k < happened_count new → IsRowStep own k (Need group count)
    → count ≤ many group (second_by 0 (take (k + 1) (happened_of new)))
still_met latest own old new many u g met k group count l need = by_place (cases_lt k (happened_count old))
  where
    by_place : (k < happened_count old) ⊎ (happened_count old ≤ k)
        → count ≤ many group (second_by 0 (take (k + 1) (happened_of new)))
    by_place (inl before) =
        let same : take (k + 1) (happened_of new) ≡ take (k + 1) (happened_of old) =
        ap (take (k + 1)) g.happened ∙ take-append-le (k + 1) (happened_of old) g.more (omega (arith, before)) in
        subst (λ l. count ≤ many group (second_by 0 l)) (sym same) (met k group count before need)
    by_place (inr le) = absurd (g.free own k group count u le l need)

-- one is passed
pub more_met : (own : List Step) (name posts now : ℕ) (old new : PlayedRow) (many : ℕ → ℕ → ℕ)
    → IsUnderWay own old → IsAtSecond old → IsPassed name posts now old new → posts ≤ many name now
    → ((k group count : ℕ) → k < happened_count old → IsRowStep own k (Need group count)
    → count ≤ many group (second_by 0 (take (k + 1) (happened_of old))))
    → (k group count : ℕ) → k < happened_count new → IsRowStep own k (Need group count)
    → count ≤ many group (second_by 0 (take (k + 1) (happened_of new)))
more_met own name posts now old new many u time h stand met k group count l need =
    by_place (cases_lt k (happened_count old))
  where
    more : List Step
    more = Event (Tick (now - h.second)) ∷ []

    longer : happened_count new ≡ happened_count old + 1
    longer = passed_count name posts now old new h

    by_place : (k < happened_count old) ⊎ (happened_count old ≤ k)
        → count ≤ many group (second_by 0 (take (k + 1) (happened_of new)))
    by_place (inl before) =
        let same : take (k + 1) (happened_of new) ≡ take (k + 1) (happened_of old) =
        ap (take (k + 1)) h.advanced.happened
        ∙ take-append-le (k + 1) (happened_of old) (Event (Tick (now - h.second)) ∷ []) (omega (arith, before)) in
        subst (λ l. count ≤ many group (second_by 0 l)) (sym same) (met k group count before need)
    by_place (inr le) =
        let place : k ≡ happened_count old = omega (arith, l, le, longer) in
        let here : slice_get own old.place ≡ Some (Need name h.count) =
        ap (λ l. slice_get l old.place) (sym u.steps) ∙ h.need in
        let same = one_way (length own) need.turn u.turns need.place old.place
        (slice_get_within own need.place (Need group count) need.step)
        (slice_get_within own old.place (Need name h.count) here) (sym need.at ∙ place ∙ u.count) in
        let there : Some (Need group count) ≡ Some (Need name h.count) =
        sym need.step ∙ ap (slice_get own) same.1 ∙ here in
        let name_is : name ≡ group = cc in
        let count_is : count ≡ h.count = cc in
        let whole : take (k + 1) (happened_of new) ≡ happened_of new =
        take_all (k + 1) (happened_of new) (omega (arith, place, longer)) in
        let at : second_by 0 (take (k + 1) (happened_of new)) ≡ now =
        ap (second_by 0) whole ∙ passed_second name posts now old new h time in
        let enough : count ≤ many name now = omega (arith, count_is, h.met, stand) in
        subst (λ n. count ≤ many group n) (sym at) (subst (λ g. count ≤ many g now) name_is enough)

-- ---- counting

-- the posts of one device more
pub posts_more : (slots : List Slot) (group i : ℕ) (x : Slot) (posts one sum : ℕ) → i < length slots
    → x ≡ get_or slots i x → posts ≡ min (all_posts (take i slots) group) (2 ^ 64 - 1)
    → one ≡ min (posts_made x.row group) (2 ^ 64 - 1) → sum ≡ min (posts + one) (2 ^ 64 - 1)
    → sum ≡ min (all_posts (take (i + 1) slots) group) (2 ^ 64 - 1)
posts_more slots group i x posts one sum l e so_far is all =
    let taken : take (i + 1) slots ≡ take i slots ++ x ∷ [] =
    (take_at_read slots i x l).1 ∙ ap (λ y. take i slots ++ y ∷ []) (sym e) in
    let more : all_posts (take (i + 1) slots) group ≡ all_posts (take i slots) group + posts_made x.row group =
    ap (λ xs. all_posts xs group) taken
    ∙ sum_by_push (λ (slot : Slot). posts_made slot.row group) (take i slots) x in
    omega (arith, so_far, is, all, more)

pub with_on : {A B C : Type 0} → A ⊎ B → C → A ⊎ (C × B)
with_on (inl a) c = inl a
with_on (inr b) c = inr (c, b)
