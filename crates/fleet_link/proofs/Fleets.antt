-- All devices, where one of them goes on.
use Rattle.std.proofs.Common.{◌≡◌, ◌⊎◌, inl, inr, ℕ, ◌+◌, ◌-◌, ◌^◌, min, ◌≤◌, ◌<◌, Bool, true, false, List}
use Rattle.std.proofs.Common.{length, take, get_or, max, Option, None, Some, slice_get, Result, Ok, Err, OnOk, refl, sym, ap, subst, ◌∙◌, arith}
use Rattle.std.proofs.Math.ListN.{length-set}
use Rattle.std.proofs.lemmas.Bool.{cases_eq}
use Rattle.std.proofs.lemmas.Option.{slice_get_read, slice_get_within}
use Rattle.std.specs.List.{slice_set}
use Rattle.std.specs.Result.{is_err, IsErr}
use Rattle.lemmas.proofs.Lists.{set_elsewhere, set_gives}
use Rattle.device_template.specs.Template.{Template}
use Rattle.scenario_image.specs.declared.step.Step.{Step}
use Rattle.scenario_image.specs.declared.step.Step.TheVariants.{Need}
use Rattle.scenario_image.specs.Scenario.{Row, Scenario}
use Rattle.fleet_link.specs.declared.fleet.Fleet.{Fleet}
use Rattle.fleet_link.specs.declared.ports.Receipt.{Receipt}
use Rattle.fleet_link.specs.declared.slot.Slot.{Slot}
use Rattle.fleet_link.specs.Playing.{happened_count, happened_of, played_steps, posts_in, posts_made, row_state}
use Rattle.fleet_link.specs.Playing.{second_by, GoesOn, HasHappenedBy, IsLaterThan, IsPassed, IsRowStep}
use Rattle.fleet_link.specs.Serving.{all_posts, posts_of, AreAt, AreMet, AreSwept, IsFleet, IsRowServed, IsServed}
use Rattle.fleet_link.specs.Serving.{IsSweptAt}
use Rattle.fleet_link.specs.Traffic.{Carries, Traffic, at_port, failed_once, no_traffic, traffic_of_receipt}
use Rattle.fleet_link.proofs.Served.{served_on, swept_after}
use Rattle.fleet_link.proofs.Stepped.{goes_on_same}
use Rattle.fleet_link.proofs.Advanced.{by_later}
use Rattle.fleet_link.proofs.Passing.{goes_posts, more_met, passed_all, passed_made, passed_posts, posts_grow, same_row}
use Rattle.fleet_link.proofs.Passing.{still_met, sum_capped, sum_less}
use Rattle.fleet_link.proofs.Posting.{made_posts}
use Rattle.fleet_link.proofs.Told.{at_port_other, at_port_same, carries_none, carries_on, carries_same}

-- ---- lists

pub read_at : {X : Type 0} (xs : List X) (i : ℕ) (x : X) → i < length xs → x ≡ get_or xs i x → slice_get xs i ≡ Some x
read_at xs i x l e = slice_get_read xs (length xs) i x refl l e

-- what holds of the one that was set, and of each of the others, holds of each
pub each_set : {X : Type 0} (P : ℕ → X → Type 0) (xs more : List X) (place : ℕ) (new : X)
    → more ≡ slice_set xs place new
    → P place new → ((e : ℕ) (x : X) → (e ≡ place → ⊥) → slice_get xs e ≡ Some x → P e x)
    → (e : ℕ) (x : X) → slice_get more e ≡ Some x → P e x
each_set P xs more place new is here others e x got = at (cases_eq place e)
  where
    set : slice_get (slice_set xs place new) e ≡ Some x
    set = ap (λ l. slice_get l e) (sym is) ∙ got

    at : (place ≡ e) ⊎ (place ≡ e → ⊥) → P e x
    at (inl same) =
        let y : new ≡ x = set_gives xs place new x
        (subst (λ i. slice_get (slice_set xs place new) i ≡ Some x) (sym same) set) in
        subst (λ i. P i x) same (subst (P place) y here)
    at (inr other) = others e x (λ q. other (sym q)) (sym (set_elsewhere xs place e new other) ∙ set)

-- ---- a fleet

served_row : (s : Scenario) (played : Bool) (e : ℕ) (before between after : Option Traffic) (slot new : Slot)
    (broken : Bool)
    → IsRowServed s played e before slot false between
    → ((class : Template) (own : List Step) → IsServed class own before slot false between
    → IsServed class own before new broken after)
    → IsRowServed s played e before new broken after
served_row s played e before between after slot new broken h f =
    record { class = h.class; steps = h.steps; row = h.row; served = f h.class (played_steps played h.steps) h.served }

-- what holds of needs that were passed holds of them where a row has gone on
met_set : (s : Scenario) (played : Bool) (slots more : List Slot) (place : ℕ) (slot new : Slot)
    → AreMet s played slots → slice_get slots place ≡ Some slot → more ≡ slice_set slots place new
    → ((group until : ℕ) → posts_in slot.row group until ≤ posts_in new.row group until)
    → ((k group count : ℕ) (row : Row) → slice_get s.rows place ≡ Some row → k < happened_count new.row
    → IsRowStep (played_steps played row.steps) k (Need group count)
    → count ≤ posts_of more group (second_by 0 (take (k + 1) (happened_of new.row))))
    → AreMet s played more
met_set s played slots more place slot new met at is grows here =
    λ e k group count row x at_row got l need.
    each_set (λ i y. (k group count : ℕ) (row : Row) → slice_get s.rows i ≡ Some row → k < happened_count y.row
    → IsRowStep (played_steps played row.steps) k (Need group count)
    → count ≤ posts_of more group (second_by 0 (take (k + 1) (happened_of y.row)))) slots more place new is here
    (λ i y o found j g n r a b c.
    let before = met i j g n r y a found b c in
    let grown = more_posts g (second_by 0 (take (j + 1) (happened_of y.row))) in
    omega (arith, before, grown)) e x got k group count row at_row l need
  where
    more_posts : (group until : ℕ) → posts_of slots group until ≤ posts_of more group until
    more_posts group until =
        subst (λ l. posts_of slots group until ≤ posts_of l group until) (sym is)
        (posts_grow slots place slot new group until at (grows group until))

-- one device went on, nothing went through the ports of the others
pub one_served : (s : Scenario) (played : Bool) (before between after : ℕ → Option Traffic) (slots more : List Slot)
    (now : ℕ) (broken : Bool) (place until : ℕ) (slot new : Slot) → IsFleet s played before slots now false between
    → slice_get slots place ≡ Some slot → more ≡ slice_set slots place new
    → ((class : Template) (own : List Step) → IsServed class own (before place) slot false (between place)
    → IsServed class own (before place) new broken (after place))
    → ((e : ℕ) → (e ≡ place → ⊥) → Carries (between e) (after e) no_traffic) → new.second ≤ now
    → until ≤ now → GoesOn until slot.row new.row → IsFleet s played before more now broken after
one_served s played before between after slots more now broken place until slot new h at is here others early le goes =
    let row = h.each place slot at in
    record {
      count = ap length is ∙ length-set slots place new ∙ h.count;
      each = each_set (λ e x. IsRowServed s played e (before e) x broken (after e)) slots more place new is
          (served_row s played place (before place) (between place) (after place) slot new broken
          (h.each place slot at) here)
          (λ e x o got. served_row s played e (before e) (between e) (after e) x x broken (h.each e x got)
          (λ class own k. served_on class own (before e) x broken (between e) (after e) k (others e o)));
      early = each_set (λ e x. x.second ≤ now) slots more place new is early (λ e x o got. h.early e x got);
      made = each_set (λ e x. HasHappenedBy now x.row) slots more place new is
          (goes.made (played_steps played row.steps) now row.served.row_is le (h.made place slot at))
          (λ e x o got. h.made e x got);
      met = met_set s played slots more place slot new h.met at is (goes_posts until slot.row new.row goes)
          (λ k group count row a l need.
          still_met until (played_steps played row.steps) slot.row new.row (posts_of more)
          (same_row s played place (before place) (between place) slot false row (h.each place slot at) a) goes
          (λ i g n b c.
          let before_set = h.met place i g n row slot a at b c in
          let grown = more_posts g (second_by 0 (take (i + 1) (happened_of slot.row))) in
          omega (arith, before_set, grown)) k group count l need);
    }
  where
    more_posts : (group second : ℕ) → posts_of slots group second ≤ posts_of more group second
    more_posts group second =
        subst (λ l. posts_of slots group second ≤ posts_of l group second) (sym is)
        (posts_grow slots place slot new group second at (goes_posts until slot.row new.row goes group second))

-- one device passed a need, or did nothing
pub one_passed : (s : Scenario) (played : Bool) (before between : ℕ → Option Traffic) (slots : List Slot)
    (now place name posts : ℕ) (slot new : Slot) → IsFleet s played before slots now false between
    → slice_get slots place ≡ Some slot
    → ((class : Template) (own : List Step) (b x : Option Traffic) → IsServed class own b slot false x
    → slot.second ≤ now → IsServed class own b new false x)
    → (new.row ≡ slot.row) ⊎ ((slot.end ≡ None) × IsPassed name posts now slot.row new.row)
    → new.second ≡ slot.second → posts ≤ posts_of slots name now
    → IsFleet s played before (slice_set slots place new) now false between
one_passed s played before between slots now place name posts slot new h at served passed second stand =
    by_case passed
  where
    early : slot.second ≤ now
    early = h.early place slot at

    none : (e : ℕ) → (e ≡ place → ⊥) → Carries (between e) (between e) no_traffic
    none e o = carries_none (between e)

    here : (class : Template) (own : List Step) → IsServed class own (before place) slot false (between place)
        → IsServed class own (before place) new false (between place)
    here class own k = served class own (before place) (between place) k early

    more_posts : IsPassed name posts now slot.row new.row → (group until : ℕ)
        → posts_of slots group until ≤ posts_of (slice_set slots place new) group until
    more_posts p group until =
        posts_grow slots place slot new group until at
        (passed_posts name posts now slot.row new.row p group until)

    stands : IsPassed name posts now slot.row new.row → posts ≤ posts_of (slice_set slots place new) name now
    stands p = let grown = more_posts p name now in omega (arith, stand, grown)

    by_case : (new.row ≡ slot.row) ⊎ ((slot.end ≡ None) × IsPassed name posts now slot.row new.row)
        → IsFleet s played before (slice_set slots place new) now false between
    by_case (inl same) =
        one_served s played before between between slots (slice_set slots place new) now false place now slot new h at
        refl here none (omega (arith, early, second)) (omega arith) (goes_on_same now slot.row new.row same)
    by_case (inr (on, p)) =
        record {
          count = length-set slots place new ∙ h.count;
          each = each_set (λ e x. IsRowServed s played e (before e) x false (between e)) slots
              (slice_set slots place new) place new refl
              (served_row s played place (before place) (between place) (between place) slot new false
              (h.each place slot at) here)
              (λ e x o got. h.each e x got);
          early = each_set (λ e x. x.second ≤ now) slots (slice_set slots place new) place new refl
              (omega (arith, early, second)) (λ e x o got. h.early e x got);
          made = each_set (λ e x. HasHappenedBy now x.row) slots (slice_set slots place new) place new refl
              (passed_made name posts now slot.row new.row p (h.each place slot at).served.row_is.second
              (h.made place slot at))
              (λ e x o got. h.made e x got);
          met = met_set s played slots (slice_set slots place new) place slot new h.met at refl
              (passed_posts name posts now slot.row new.row p)
              (λ k group count row a l need.
              more_met (played_steps played row.steps) name posts now slot.row new.row
              (posts_of (slice_set slots place new))
              (same_row s played place (before place) (between place) slot false row (h.each place slot at) a)
              (h.each place slot at).served.row_is.second p (stands p)
              (λ i g n b c.
              let before_set = h.met place i g n row slot a at b c in
              let grown = more_posts p g (second_by 0 (take (i + 1) (happened_of slot.row))) in
              omega (arith, before_set, grown)) k group count l need);
        }

-- the same, where the second of the session is known by two names
pub passed_at : (s : Scenario) (played : Bool) (before between : ℕ → Option Traffic) (slots : List Slot)
    (then now place name posts : ℕ) (slot new : Slot) → now ≡ then → IsFleet s played before slots then false between
    → slice_get slots place ≡ Some slot
    → ((class : Template) (own : List Step) (b x : Option Traffic) → IsServed class own b slot false x
    → slot.second ≤ now → IsServed class own b new false x)
    → (new.row ≡ slot.row) ⊎ ((slot.end ≡ None) × IsPassed name posts now slot.row new.row)
    → new.second ≡ slot.second → posts ≤ posts_of slots name now
    → IsFleet s played before (slice_set slots place new) then false between
passed_at s played before between slots then now place name posts slot new same h at served passed second stand =
    subst (λ n. IsFleet s played before (slice_set slots place new) n false between) same
    (one_passed s played before between slots now place name posts slot new
    (subst (λ n. IsFleet s played before slots n false between) (sym same) h) at served passed second stand)

-- posts that stood stand still
pub stand_still : (slots : List Slot) (place name posts now group until : ℕ) (slot new : Slot)
    → slice_get slots place ≡ Some slot
    → (new.row ≡ slot.row) ⊎ ((slot.end ≡ None) × IsPassed name posts now slot.row new.row)
    → posts_of slots group until ≤ posts_of (slice_set slots place new) group until
stand_still slots place name posts now group until slot new at passed =
    posts_grow slots place slot new group until at (by_case passed)
  where
    by_case : (new.row ≡ slot.row) ⊎ ((slot.end ≡ None) × IsPassed name posts now slot.row new.row)
        → posts_in slot.row group until ≤ posts_in new.row group until
    by_case (inl same) =
        subst (λ r. posts_in slot.row group until ≤ posts_in r group until) (sym same) (omega arith)
    by_case (inr (on, p)) = passed_posts name posts now slot.row new.row p group until

-- those that all rows have made are as many
pub all_still : (slots : List Slot) (place name posts now group : ℕ) (slot new : Slot)
    → slice_get slots place ≡ Some slot
    → (new.row ≡ slot.row) ⊎ ((slot.end ≡ None) × IsPassed name posts now slot.row new.row)
    → min (all_posts slots group) (2 ^ 64 - 1) ≤ min (all_posts (slice_set slots place new) group) (2 ^ 64 - 1)
all_still slots place name posts now group slot new at passed =
    sum_capped (λ (x : Slot). posts_made x.row group) slots place slot new at (by_case passed)
  where
    by_case : (new.row ≡ slot.row) ⊎ ((slot.end ≡ None) × IsPassed name posts now slot.row new.row)
        → min (posts_made slot.row group) (2 ^ 64 - 1) ≤ min (posts_made new.row group) (2 ^ 64 - 1)
    by_case (inl same) =
        let e : posts_made new.row group ≡ posts_made slot.row group = ap (λ r. posts_made r group) same in
        omega (arith, e)
    by_case (inr (on, p)) = passed_all name posts now group slot.row new.row p

-- all posts that rows have made stand
pub all_stand : (s : Scenario) (played : Bool) (before after : ℕ → Option Traffic) (slots : List Slot) (now group : ℕ)
    → IsFleet s played before slots now false after → all_posts slots group ≤ posts_of slots group now
all_stand s played before after slots now group h =
    sum_less (λ (x : Slot). posts_made x.row group) (λ (x : Slot). posts_in x.row group now) slots
    (λ e x at.
    let row = h.each e x at in
    made_posts (played_steps played row.steps) x.row group now row.served.row_is (h.made e x at))

-- nothing went through the port of any device
pub none_served : (s : Scenario) (played : Bool) (before between after : ℕ → Option Traffic) (slots : List Slot)
    (now later : ℕ)
    (broken : Bool) → IsFleet s played before slots now false between
    → ((e : ℕ) → e < length slots → Carries (between e) (after e) no_traffic) → now ≤ later
    → IsFleet s played before slots later broken after
none_served s played before between after slots now later broken h none le =
    record {
      count = h.count;
      each = λ e x got. served_row s played e (before e) (between e) (after e) x x broken (h.each e x got)
          (λ class own k. served_on class own (before e) x broken (between e) (after e) k
          (none e (slice_get_within slots e x got)));
      early = λ e x got. let k : x.second ≤ now = h.early e x got in omega arith;
      made = λ e x got. by_later now later 0 (happened_of x.row) le (h.made e x got);
      met = h.met;
    }

-- ---- which are due

pub swept_set : (slots more : List Slot) (n second place : ℕ) (new : Slot) → more ≡ slice_set slots place new
    → AreSwept slots n second → (new.end ≡ None → IsSweptAt new second) → AreSwept more n second
swept_set slots more n second place new is h here =
    λ e x l got. each_set (λ i y. i < n → y.end ≡ None → IsSweptAt y second) slots more place new is
    (λ _. here) (λ i y o at k. h i y k at) e x got l

pub swept_next : (slots more : List Slot) (second place : ℕ) (new : Slot) → more ≡ slice_set slots place new
    → AreSwept slots place second → (new.end ≡ None → IsSweptAt new second)
    → AreSwept more (place + 1) second
swept_next slots more second place new is h here =
    λ e x l got. each_set (λ i y. i < place + 1 → y.end ≡ None → IsSweptAt y second) slots more place new is
    (λ _. here) (λ i y o at k. h i y (below i o k) at) e x got l
  where
    below : (i : ℕ) → (i ≡ place → ⊥) → i < place + 1 → i < place
    below i o k = omega (arith, o)

pub at_next : (slots more : List Slot) (second place : ℕ) (new : Slot) → more ≡ slice_set slots place new
    → AreAt slots place second → (new.end ≡ None → new.second ≡ second) → AreAt more (place + 1) second
at_next slots more second place new is h here =
    λ e x l got. each_set (λ i y. i < place + 1 → y.end ≡ None → y.second ≡ second) slots more place new is
    (λ _. here) (λ i y o at k. h i y (below i o k) at) e x got l
  where
    below : (i : ℕ) → (i ≡ place → ⊥) → i < place + 1 → i < place
    below i o k = omega (arith, o)

-- ---- ports that fail

pub failed_at : (s : Scenario) (played : Bool) (before between after : ℕ → Option Traffic) (slots : List Slot) (now : ℕ)
    (device : ℕ) (slot new : Slot) → IsFleet s played before slots now false between
    → ((e : ℕ) → Carries (between e) (after e) (at_port device e failed_once))
    → slice_get slots device ≡ Some slot
    → ((class : Template) (own : List Step) (b x y : Option Traffic) → IsServed class own b slot false x
    → Carries x y failed_once
    → IsServed class own b new false y) → new.second ≡ slot.second → new.row ≡ slot.row
    → IsFleet s played before (slice_set slots device new) now false after
failed_at s played before between after slots now device slot new h went at served second row =
    let le : slot.second ≤ now = h.early device slot at in
    one_served s played before between after slots (slice_set slots device new) now false device now slot new h at refl
    (λ class own k. served class own (before device) (between device) (after device) k
    (carries_same (between device) (after device) _ _ (went device) (at_port_same device failed_once)))
    (λ e o. carries_same (between e) (after e) _ _ (went e) (at_port_other device e failed_once o)) (omega arith)
    (omega arith) (goes_on_same now slot.row new.row row)

-- what went through a port past those of the devices has no part in it
pub beyond : (s : Scenario) (played : Bool) (before between after : ℕ → Option Traffic) (slots : List Slot)
    (now device : ℕ)
    (broken : Bool) (more : Traffic) → IsFleet s played before slots now false between
    → ((e : ℕ) → Carries (between e) (after e) (at_port device e more)) → length slots ≤ device
    → IsFleet s played before slots now broken after
beyond s played before between after slots now device broken more h went past =
    none_served s played before between after slots now now broken h
    (λ e l. carries_same (between e) (after e) _ _ (went e) (at_port_other device e more (below e l))) (omega arith)
  where
    below : (e : ℕ) → e < length slots → e ≡ device → ⊥
    below e l q = absurd (omega (arith, l, q, past))

-- ---- a device that goes on

-- something went through its port, and then it went on
pub gone_on : (s : Scenario) (played : Bool) (before between mid after : ℕ → Option Traffic) (slots : List Slot)
    (now place : ℕ)
    (broken : Bool) (more : Traffic) (slot new : Slot) → IsFleet s played before slots now false between
    → ((e : ℕ) → Carries (between e) (mid e) (at_port place e more)) → slice_get slots place ≡ Some slot
    → ((class : Template) (own : List Step) (b x : Option Traffic) → IsServed class own b slot false x
    → Carries x (mid place) more
    → slot.second ≤ now → IsServed class own b new broken (after place))
    → ((e : ℕ) → (e ≡ place → ⊥) → Carries (mid e) (after e) no_traffic)
    → ((most : ℕ) → slot.second ≤ most → now ≤ most → new.second ≤ most) → GoesOn now slot.row new.row
    → IsFleet s played before (slice_set slots place new) now broken after
gone_on s played before between mid after slots now place broken more slot new h went at served others most goes =
    let early : slot.second ≤ now = h.early place slot at in
    one_served s played before between after slots (slice_set slots place new) now broken place now slot new h at refl
    (λ class own k. served class own (before place) (between place) k
    (carries_same (between place) (mid place) _ _ (went place) (at_port_same place more)) early)
    (λ e o. carries_on (between e) (mid e) (after e) no_traffic
    (carries_same (between e) (mid e) _ _ (went e) (at_port_other place e more o)) (others e o))
    (most now early (omega arith)) (omega arith) goes

-- when it is due then
pub gone_due : (s : Scenario) (played : Bool) (before between mid after : ℕ → Option Traffic) (slots : List Slot)
    (now place : ℕ)
    (broken : Bool) (more : Traffic) (slot new : Slot) → IsFleet s played before slots now false between
    → ((e : ℕ) → Carries (between e) (mid e) (at_port place e more)) → slice_get slots place ≡ Some slot
    → ((class : Template) (own : List Step) (b x : Option Traffic) → IsServed class own b slot false x
    → Carries x (mid place) more
    → slot.second ≤ now → IsServed class own b new broken (after place))
    → (slot.second ≤ now → new.end ≡ None → new.second ≡ now)
    → (new.end ≡ None → IsLaterThan now (row_state new.row)) → (n second : ℕ) → second ≤ now → AreSwept slots n second
    → AreSwept (slice_set slots place new) n second
gone_due s played before between mid after slots now place broken more slot new h went at served reached later n
    second le swept =
    let early : slot.second ≤ now = h.early place slot at in
    let row = h.each place slot at in
    let own = played_steps played row.steps in
    let k = served row.class own (before place) (between place) row.served
    (carries_same (between place) (mid place) _ _ (went place) (at_port_same place more)) early in
    swept_set slots (slice_set slots place new) n second place new refl swept
    (λ e. swept_after row.class own (before place) new broken (after place) now second k e (reached early e) (later e)
    le)

-- ---- a reading of the clock

pub errs : {T E : Type 0} (r : Result T E) → IsErr r → true ≡ is_err r
errs r h = sym h

-- the second of the session is set on
pub passed : (s : Scenario) (played : Bool) (before after : ℕ → Option Traffic) (old new : Fleet) (n : ℕ)
    → IsFleet s played before old.slots.items old.second false after → new.second ≡ max old.second n
    → new.slots ≡ old.slots
    → IsFleet s played before new.slots.items new.second false after
passed s played before after old new n h second slots =
    subst (λ x. IsFleet s played before x.items new.second false after) (sym slots)
    (none_served s played before after after old.slots.items old.second new.second false h
    (λ e l. carries_none (after e))
    (omega (arith, second)))

pub swept_same : (old new : Fleet) (n second : ℕ) → new.slots ≡ old.slots → AreSwept old.slots.items n second
    → AreSwept new.slots.items n second
swept_same old new n second slots h = subst (λ x. AreSwept x.items n second) (sym slots) h

-- the ports did nothing for any device
pub still_served : (s : Scenario) (played : Bool) (before between after : ℕ → Option Traffic) (slots : List Slot)
    (now : ℕ)
    (broken : Bool) → IsFleet s played before slots now false between
    → ((e : ℕ) → Carries (between e) (after e) no_traffic) → IsFleet s played before slots now broken after
still_served s played before between after slots now broken h none =
    none_served s played before between after slots now now broken h (λ e l. none e) (omega arith)

-- a session that is broken off may have been whole
pub breaks : (s : Scenario) (played : Bool) (before after : ℕ → Option Traffic) (slots : List Slot) (now : ℕ)
    (broken other : Bool)
    → broken ≡ other → IsFleet s played before slots now broken after → IsFleet s played before slots now other after
breaks s played before after slots now broken other e h = subst (λ b. IsFleet s played before slots now b after) e h

-- ---- receipts

pub carries_at : (x y : Option Traffic) (second e : ℕ) (a b : Receipt) → a ≡ b
    → Carries x y (traffic_of_receipt second (Ok a) e) → Carries x y (traffic_of_receipt second (Ok b) e)
carries_at x y second e a b is h = subst (λ r. Carries x y (traffic_of_receipt second (Ok r) e)) is h

-- ---- one device after another

pub swept_at : (slots : List Slot) (n m second : ℕ) → n ≡ m → AreSwept slots n second → AreSwept slots m second
swept_at slots n m second e h = subst (λ k. AreSwept slots k second) e h

pub stand_at : (slots : List Slot) (n m second : ℕ) → n ≡ m → AreAt slots n second → AreAt slots m second
stand_at slots n m second e h = subst (λ k. AreAt slots k second) e h

-- the device at this place was brought to a second, or was not due
pub next_served : (s : Scenario) (played : Bool) (before between after : ℕ → Option Traffic) (slots : List Slot)
    (now place to : ℕ)
    (broken : Bool) (slot new : Slot) → IsFleet s played before slots now false between → slice_get slots place ≡ Some
    slot
    → ((class : Template) (own : List Step) (b : Option Traffic) → IsServed class own b slot false (between place)
    → IsServed class own b new broken (after place))
    → ((e : ℕ) → (e ≡ place → ⊥) → Carries (between e) (after e) no_traffic)
    → ((most : ℕ) → slot.second ≤ most → to ≤ most → new.second ≤ most) → to ≤ now
    → GoesOn to slot.row new.row
    → IsFleet s played before (slice_set slots place new) now broken after
next_served s played before between after slots now place to broken slot new h at served others most le goes =
    one_served s played before between after slots (slice_set slots place new) now broken place to slot new h at refl
    (λ class own k. served class own (before place) k) others (most now (h.early place slot at) le) le goes

pub next_swept : (s : Scenario) (played : Bool) (before between : ℕ → Option Traffic) (slots : List Slot)
    (now place to : ℕ)
    (slot new : Slot) → IsFleet s played before slots now false between → slice_get slots place ≡ Some slot
    → ((class : Template) (own : List Step) (b : Option Traffic) → IsServed class own b slot false (between place)
    → new.end ≡ None
    → IsSweptAt new to) → AreSwept slots place to → AreSwept (slice_set slots place new) (place + 1) to
next_swept s played before between slots now place to slot new h at due swept =
    let row = h.each place slot at in
    swept_next slots (slice_set slots place new) to place new refl swept (due row.class
    (played_steps played row.steps) (before place) row.served)

pub next_at : (s : Scenario) (played : Bool) (before between : ℕ → Option Traffic) (slots : List Slot) (now place : ℕ)
    (slot new : Slot) → IsFleet s played before slots now false between → slice_get slots place ≡ Some slot
    → (slot.second ≤ now → new.end ≡ None → new.second ≡ now) → AreAt slots place now
    → AreAt (slice_set slots place new) (place + 1) now
next_at s played before between slots now place slot new h at reached stand =
    at_next slots (slice_set slots place new) now place new refl stand (reached (h.early place slot at))

pub always : {T E P : Type 0} (r : Result T E) → P → OnOk r P
always (Ok x) p = p
always (Err e) p = tt
