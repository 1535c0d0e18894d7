-- A row, one step further.
use Rattle.std.proofs.Common.{◌≡◌, ℕ, ◌+◌, ◌^◌, ◌<◌, ◌≤◌, List, [], ◌∷◌, ◌++◌, Option, None, Some, length, slice_get}
use Rattle.std.proofs.Common.{◌⊎◌, inl, inr, true, false, Result, Ok, Err, OnOk, IfErr, refl, sym, ap, subst, ◌∙◌}
use Rattle.std.proofs.Common.{append-nil, arith}
use Rattle.std.proofs.Common.{append_assoc, length-append}
use Rattle.std.proofs.lemmas.Bool.{cases_lt}
use Rattle.std.proofs.lemmas.Option.{slice_get_within}
use Rattle.std.specs.Option.{MatchOption}
use Rattle.lemmas.proofs.Lists.{item_at}
use Rattle.device_machine.specs.declared.event.Event.{Event as Happening}
use Rattle.device_machine.specs.declared.event.Event.TheVariants.{Recv, Put, Firmware, Tick}
use Rattle.device_machine.specs.State.{Machine, Device}
use Rattle.scenario_image.specs.declared.step.Step.{Step}
use Rattle.scenario_image.specs.declared.step.Step.TheVariants.{Event, Post, Need}
use Rattle.fleet_link.specs.declared.row.PlayedRow.{PlayedRow}
use Rattle.fleet_link.specs.declared.row.RowState.{RowState}
use Rattle.fleet_link.specs.declared.row.RowState.TheVariants.{Due, Ended, Waits}
use Rattle.fleet_link.specs.declared.recording.Recording.{Recording}
use Rattle.fleet_link.specs.declared.slot.DeviceEnd.{DeviceEnd}
use Rattle.fleet_link.specs.declared.slot.DeviceEnd.TheVariants.{Memory}
use Rattle.fleet_link.specs.declared.slot.Slot.{Slot}
use Rattle.fleet_link.specs.Playing.{change_at, change_in, changes_of, happened_count, happened_of, is_need, row_state}
use Rattle.fleet_link.specs.Playing.{second_after, second_of_row, state_of, Change, ComesTo, GoesOn, IsAdvanced}
use Rattle.fleet_link.specs.Playing.{IsAtSecond, IsFleetStep, IsLaterThan, IsOnTime, IsRowStep, IsTimely, IsUnderWay}
use Rattle.fleet_link.specs.Serving.{heard_at, IsServing}
use Rattle.fleet_link.specs.Traffic.{ReceivedPacket, Traffic}
use Rattle.fleet_link.proofs.Advanced.{advanced_count, advanced_made, advanced_next, advanced_under_way, not_earlier}
use Rattle.fleet_link.proofs.Advanced.{one_way}

-- ---- a row whose next step is due

pub due_second : (o : Option ℕ) (next : Option Step) (due : ℕ) → state_of o next ≡ Due due → o ≡ Some due
due_second None next due h = let e : Ended ≡ Due due = h in absurd cc
due_second (Some n) None due h = let e : Ended ≡ Due due = h in absurd cc
due_second (Some n) (Some (Event event)) due h = let e : Due n ≡ Due due = h in cc
due_second (Some n) (Some (Post group)) due h = let e : Due n ≡ Due due = h in cc
due_second (Some n) (Some (Need group count)) due h = let e : Waits group count ≡ Due due = h in absurd cc

due_step : (o : Option ℕ) (next : Option Step) (due : ℕ) → state_of o next ≡ Due due → (step : Step) ×
    (next ≡ Some step)
due_step None next due h = let e : Ended ≡ Due due = h in absurd cc
due_step (Some n) None due h = let e : Ended ≡ Due due = h in absurd cc
due_step (Some n) (Some step) due h = (step, refl)

pub due_within : (row : PlayedRow) (due : ℕ) → row_state row ≡ Due due → row.place < length row.steps.items
due_within row due h =
    let found = due_step row.second (slice_get row.steps.items row.place) due h in
    slice_get_within row.steps.items row.place found.0 found.1

pub due_timely : (row : PlayedRow) (second due : ℕ) → row_state row ≡ Due due → IsOnTime row second → second ≤ due
due_timely row second due is h = at (row_state row) is h.timely
  where
    at : (state : RowState) → state ≡ Due due → IsTimely second state → second ≤ due
    at (Due x) is k = let q : x ≡ due = cc in subst (λ y. second ≤ y) q k
    at (Waits group count) is k = let q : Waits group count ≡ Due due = is in absurd cc
    at Ended is k = let q : Ended ≡ Due due = is in absurd cc

due_is : (row : PlayedRow) (second due : ℕ) → row_state row ≡ Due due → IsOnTime row second → due ≡ second_of_row row
due_is row second due is h =
    subst (λ o. MatchOption o (2 ^ 64 ≤ second_of_row row) (λ d. d ≡ second_of_row row))
    (due_second row.second (slice_get row.steps.items row.place) due is) h.next

-- it is on time up to the second at which its next step is due
on_time_until : (row : PlayedRow) (second due : ℕ) → row_state row ≡ Due due → IsOnTime row second → IsOnTime row due
on_time_until row second due is h =
    record { next = h.next; timely = subst (IsTimely due) (sym is) (omega arith) }

-- ---- its next step has happened

pub advanced_on_time : (old new : PlayedRow)
    → ((step : Step) → slice_get old.steps.items old.place ≡ Some step → IsAdvanced step old new)
    → (second due : ℕ) → row_state old ≡ Due due → IsOnTime old second → IsOnTime new second
advanced_on_time old new advanced second due is h =
    let found = item_at old.steps.items old.place (due_within old due is) in
    let a = advanced found.0 found.1 in
    let grown = not_earlier due found.0 in
    record {
      next = advanced_next found.0 old new a h.next;
      timely = timely new.second (slice_get new.steps.items new.place) (second_after due found.0)
          (a.second due (due_second old.second (slice_get old.steps.items old.place) due is)) grown
          (due_timely old second due is h);
    }
  where
    timely : (o : Option ℕ) (step : Option Step) (n : ℕ) → MatchOption o (2 ^ 64 ≤ n) (λ d. d ≡ n) → due ≤ n
        → second ≤ due → IsTimely second (state_of o step)
    timely None step n k l le = tt
    timely (Some m) None n k l le = tt
    timely (Some m) (Some (Event event)) n k l le = omega (arith, k, l, le)
    timely (Some m) (Some (Post group)) n k l le = omega (arith, k, l, le)
    timely (Some m) (Some (Need group count)) n k l le = tt

-- ---- a device whose row makes a step

change_is : (step : Step) (event : Happening) → change_in step ≡ Some event
    → change_in (Event event) ≡ Some event
change_is (Event (Recv server bytes)) event h = let e : None ≡ Some event = h in absurd cc
change_is (Event (Put path value)) event h =
    let e : Some (Put path value) ≡ Some event = h in
    let k : Put path value ≡ event = cc in
    subst (λ x. change_in (Event x) ≡ Some x) k refl
change_is (Event (Firmware code)) event h =
    let e : Some (Firmware code) ≡ Some event = h in
    let k : Firmware code ≡ event = cc in
    subst (λ x. change_in (Event x) ≡ Some x) k refl
change_is (Event (Tick seconds)) event h = let e : None ≡ Some event = h in absurd cc
change_is (Post group) event h = let e : None ≡ Some event = h in absurd cc
change_is (Need group count) event h = let e : None ≡ Some event = h in absurd cc

serving_with : (f : Machine) (before : Option Traffic) (pending : List ReceivedPacket) (a b : List Change)
    (end : Option DeviceEnd) (device : Device) (second : ℕ) (recording : Recording) (after : Option Traffic) → a ≡ b
    → IsServing f before pending a end device second recording after
    → IsServing f before pending b end device second recording after
serving_with f before pending a b end device second recording after e h =
    subst (λ cs. IsServing f before pending cs end device second recording after) e h

-- a step that is no change
pub step_passed : (f : Machine) (before : Option Traffic) (pending : List ReceivedPacket) (old new : PlayedRow)
    (device : Device) (second : ℕ) (recording : Recording) (after : Option Traffic) (change : Option Happening)
    → change ≡ None → old.place < length old.steps.items
    → ((step : Step) → slice_get old.steps.items old.place ≡ Some step → change ≡ change_in step)
    → ((step : Step) → slice_get old.steps.items old.place ≡ Some step
    → changes_of new ≡ changes_of old ++ change_at (second_of_row old) (change_in step))
    → IsServing f before pending (changes_of old) None device second recording after
    → IsServing f before pending (changes_of new) None device second recording after
step_passed f before pending old new device second recording after change none within is changes h =
    let found = item_at old.steps.items old.place within in
    let same : changes_of new ≡ changes_of old =
    changes found.0 found.1
    ∙ ap (λ o. changes_of old ++ change_at (second_of_row old) o) (sym (is found.0 found.1) ∙ none)
    ∙ append-nil (changes_of old) in
    serving_with f before pending (changes_of old) (changes_of new) None device second recording after (sym same) h

-- the event of a row's next step is a change
pub step_is_change : (row : PlayedRow) (change : Option Happening) (event : Happening)
    → row.place < length row.steps.items → change ≡ Some event
    → ((step : Step) → slice_get row.steps.items row.place ≡ Some step → change ≡ change_in step)
    → change_in (Event event) ≡ Some event
step_is_change row change event within some is =
    let found = item_at row.steps.items row.place within in
    change_is found.0 event (sym (is found.0 found.1) ∙ some)

-- a step that is one
pub step_changed : (f : Machine) (before : Option Traffic) (pending : List ReceivedPacket) (old mid new : PlayedRow)
    (device : Device) (start second due : ℕ) (recording : Recording) (after : Option Traffic)
    (change : Option Happening) (event : Happening)
    → change ≡ Some event → old.place < length old.steps.items → row_state old ≡ Due due → IsOnTime old start
    → mid ≡ old
    → ((step : Step) → slice_get old.steps.items old.place ≡ Some step → change ≡ change_in step)
    → ((step : Step) → slice_get mid.steps.items mid.place ≡ Some step
    → changes_of new ≡ changes_of mid ++ change_at (second_of_row mid) (change_in step))
    → IsServing f before pending (changes_of old ++ change_at due (Some event)) None device second recording after
    → IsServing f before pending (changes_of new) None device second recording after
step_changed f before pending old mid new device start second due recording after change event some within state time
    same is changes h =
    let found = item_at old.steps.items old.place within in
    let here : slice_get mid.steps.items mid.place ≡ Some found.0 =
    ap (λ (r : PlayedRow). slice_get r.steps.items r.place) same ∙ found.1 in
    let more : changes_of new ≡ changes_of old ++ change_at due (Some event) =
    changes found.0 here
    ∙ ap (λ (r : PlayedRow). changes_of r ++ change_at (second_of_row r) (change_in found.0)) same
    ∙ ap (λ n. changes_of old ++ change_at n (change_in found.0)) (sym (due_is old start due state time))
    ∙ ap (λ o. changes_of old ++ change_at due o) (sym (is found.0 found.1) ∙ some) in
    serving_with f before pending _ (changes_of new) None device second recording after (sym more) h

pub on_time_after : (old mid new : PlayedRow) (start second due : ℕ) → row_state old ≡ Due due → IsOnTime old start
    → mid ≡ old → second ≡ due
    → ((second due : ℕ) → row_state mid ≡ Due due → IsOnTime mid second → IsOnTime new second) → IsOnTime new second
on_time_after old mid new start second due state time same at next =
    subst (IsOnTime new) (sym at)
    (next due due (ap row_state same ∙ state)
    (subst (λ r. IsOnTime r due) (sym same) (on_time_until old start due state time)))

-- ---- no memory was left for a step of the row

pub lacks_memory : (f : Machine) (before : Option Traffic) (pending : List ReceivedPacket) (changes : List Change)
    (device : Device) (second : ℕ) (recording : Recording) (after : Option Traffic)
    → IsServing f before pending changes None device second recording after
    → IsServing f before pending changes (Some Memory) device second recording after
lacks_memory f before pending changes device second recording after h =
    record {
      steps = h.steps;
      failures = h.failures;
      told = h.told;
      clock = h.clock;
      each = h.each;
      changed = h.changed;
      shows = λ e. absurd cc;
      ended = tt;
      recorded = h.recorded;
    }

-- ---- events

-- seconds change nothing
pub ticked : (f : Machine) (before : Option Traffic) (pending : List ReceivedPacket) (changes : List Change)
    (device : Device)
    (was now seconds passed : ℕ) (recording : Recording) (after : Option Traffic) → now ≡ was → passed ≡ seconds
    → IsServing f before pending (changes ++ []) None device (was + seconds) recording after
    → IsServing f before pending changes None device (now + passed) recording after
ticked f before pending changes device was now seconds passed recording after same lasts h =
    let sum : was + seconds ≡ now + passed = omega (arith, same, lasts) in
    serving_with f before pending _ changes None device (now + passed) recording after (append-nil changes)
    (subst (λ n. IsServing f before pending (changes ++ []) None device n recording after) sum h)

-- a datagram changes nothing
pub heard_on : {T E : Type 0} (r : Result T E) (f : Machine) (before : Option Traffic) (pending : List ReceivedPacket)
    (changes : List Change) (old new : PlayedRow) (device : Device) (was now : ℕ) (recording : Recording)
    (after : Option Traffic) → changes ≡ changes_of old → new ≡ old → now ≡ was
    → OnOk r (IsServing f before pending (changes ++ []) None device was recording after)
    → OnOk r (IsServing f before pending (changes_of new) None device now recording after)
heard_on (Ok x) f before pending changes old new device was now recording after is row same h =
    subst (λ n. IsServing f before pending (changes_of new) None device n recording after) (sym same)
    (serving_with f before pending _ (changes_of new) None device was recording after
    (append-nil changes ∙ is ∙ ap changes_of (sym row)) h)
heard_on (Err e) f before pending changes old new device was now recording after is row same h = tt

pub change_fits : (event : Happening) → change_in (Event event) ≡ Some event → IsFleetStep (Event event)
change_fits (Recv server bytes) h = tt
change_fits (Put path value) h = tt
change_fits (Firmware code) h = tt
change_fits (Tick seconds) h = let e : None ≡ Some (Tick seconds) = h in absurd cc

-- nothing is heard in a change
pub change_pending : (event : Happening) (second : ℕ) (f : Machine) (before : Option Traffic)
    (pending : List ReceivedPacket)
    (changes : List Change) (device : Device) (now : ℕ) (recording : Recording) (after : Option Traffic)
    → change_in (Event event) ≡ Some event → IsServing f before pending changes None device now recording after
    → IsServing f before (heard_at second (Event event) ++ pending) changes None device now recording after
change_pending (Recv server bytes) second f before pending changes device now recording after h k =
    let e : None ≡ Some (Recv server bytes) = h in absurd cc
change_pending (Put path value) second f before pending changes device now recording after h k = k
change_pending (Firmware code) second f before pending changes device now recording after h k = k
change_pending (Tick seconds) second f before pending changes device now recording after h k =
    let e : None ≡ Some (Tick seconds) = h in absurd cc

change_passes : (event : Happening) (second : ℕ) → change_in (Event event) ≡ Some event
    → second_after second (Event event) ≡ second
change_passes (Recv server bytes) second h = refl
change_passes (Put path value) second h = refl
change_passes (Firmware code) second h = refl
change_passes (Tick seconds) second h = let e : None ≡ Some (Tick seconds) = h in absurd cc

pub change_served : {T E : Type 0} (r : Result T E) (f : Machine) (before : Option Traffic)
    (pending : List ReceivedPacket)
    (changes : List Change) (event : Happening) (device : Device) (was now second : ℕ) (recording : Recording)
    (after : Option Traffic) → change_in (Event event) ≡ Some event → was ≡ second → now ≡ was
    → OnOk r (IsServing f before pending (changes ++ change_at was (change_in (Event event))) None device
    (second_after was (Event event)) recording after)
    → OnOk r (IsServing f before pending (changes ++ change_at second (Some event)) None device now recording after)
change_served (Ok x) f before pending changes event device was now second recording after is at same h =
    serving_with f before pending _ (changes ++ change_at second (Some event)) None device now recording after
    (ap (λ o. changes ++ change_at was o) is ∙ ap (λ n. changes ++ change_at n (Some event)) at)
    (subst (λ n. IsServing f before pending (changes ++ change_at was (change_in (Event event))) None device n recording
    after) (change_passes event was is ∙ sym same) h)
change_served (Err e) f before pending changes event device was now second recording after is at same h = tt

-- ---- the same row

pub row_served : {T E : Type 0} (r : Result T E) (f : Machine) (before : Option Traffic) (pending : List ReceivedPacket)
    (old new : PlayedRow) (end : Option DeviceEnd) (device : Device) (second : ℕ) (recording : Recording)
    (after : Option Traffic) → new ≡ old
    → OnOk r (IsServing f before pending (changes_of old) end device second recording after)
    → OnOk r (IsServing f before pending (changes_of new) end device second recording after)
row_served r f before pending old new end device second recording after same h =
    subst (λ x. OnOk r (IsServing f before pending (changes_of x) end device second recording after)) (sym same) h

pub row_refused : {T : Type 0} (r : Result T DeviceEnd) (f : Machine) (before : Option Traffic)
    (pending : List ReceivedPacket)
    (old new : PlayedRow) (device : Device) (second : ℕ) (recording : Recording) (after : Option Traffic) → new ≡ old
    → IfErr r (λ end. IsServing f before pending (changes_of old) (Some end) device second recording after)
    → IfErr r (λ end. IsServing f before pending (changes_of new) (Some end) device second recording after)
row_refused r f before pending old new device second recording after same h =
    subst (λ x. IfErr r (λ end. IsServing f before pending (changes_of x) (Some end) device second recording after))
    (sym same) h

pub second_refused : {T : Type 0} (r : Result T DeviceEnd) (f : Machine) (before : Option Traffic)
    (pending : List ReceivedPacket) (changes : List Change) (device : Device) (was now : ℕ) (recording : Recording)
    (after : Option Traffic) → now ≡ was
    → IfErr r (λ end. IsServing f before pending changes (Some end) device was recording after)
    → IfErr r (λ end. IsServing f before pending changes (Some end) device now recording after)
second_refused r f before pending changes device was now recording after same h =
    subst (λ n. IfErr r (λ end. IsServing f before pending changes (Some end) device n recording after)) (sym same) h

-- a device whose row is due later has come to this second
pub on_time_then : (old new : PlayedRow) (was second now : ℕ) → IsOnTime old was → IsLaterThan now (row_state old)
    → new ≡ old → ((most : ℕ) → was ≤ most → now ≤ most → second ≤ most) → IsOnTime new second
on_time_then old new was second now h later same most =
    subst (λ r. IsOnTime r second) (sym same)
    (record { next = h.next; timely = at (row_state old) h.timely later })
  where
    at : (state : RowState) → IsTimely was state → IsLaterThan now state → IsTimely second state
    at (Due due) k l = most due k (omega (arith, l))
    at (Waits group count) k l = tt
    at Ended k l = tt

pub time_same : (old new : PlayedRow) (was now : ℕ) → new ≡ old → now ≡ was → IsOnTime old was → IsOnTime new now
time_same old new was now row same h =
    subst (λ r. IsOnTime r now) (sym row) (subst (IsOnTime old) (sym same) h)

-- a device that goes on was brought to this second
pub later_settled : {T : Type 0} (taken : Result T DeviceEnd) (stepped slot : Slot) (now : ℕ)
    → OnOk taken (IsLaterThan now (row_state stepped.row)) → IfErr taken (λ end. slot.end ≡ Some end)
    → slot.row ≡ stepped.row → slot.end ≡ None → IsLaterThan now (row_state slot.row)
later_settled (Ok x) stepped slot now later ended same on = subst (λ r. IsLaterThan now (row_state r)) (sym same) later
later_settled (Err end) stepped slot now later ended same on = let e : Some end ≡ None = sym ended ∙ on in absurd cc

-- ---- a row that goes on

pub goes_on_same : (until : ℕ) (old new : PlayedRow) → new ≡ old → GoesOn until old new
goes_on_same until old new same =
    subst (GoesOn until old) (sym same) (record {
      steps = refl;
      repeated = refl;
      more = [];
      happened = sym (append-nil (happened_of old));
      under_way = λ own u. u;
      free = λ own k group count u a b r. absurd (omega (arith, a, b));
      made = λ own latest u le m. m;
    })

pub goes_then : (until : ℕ) (first old new : PlayedRow) → GoesOn until first old → new ≡ old → GoesOn until first new
goes_then until first old new h same = subst (GoesOn until first) (sym same) h

pub goes_both : (until then : ℕ) (a b c : PlayedRow) → then ≤ until → GoesOn until a b → GoesOn then b c
    → GoesOn until a c
goes_both until then a b c before h k =
    record {
      steps = k.steps ∙ h.steps;
      repeated = k.repeated ∙ h.repeated;
      more = h.more ++ k.more;
      happened = k.happened ∙ ap (λ l. l ++ k.more) h.happened ∙ append_assoc (happened_of a) h.more k.more;
      under_way = λ own u. k.under_way own (h.under_way own u);
      free = λ own i group count u x y r. by_place own i group count u x y r (cases_lt i (happened_count b));
      made = λ own latest u le m.
          k.made own latest (h.under_way own u) (omega (arith, before, le)) (h.made own latest u le m);
    }
  where
    by_place : (own : List Step) (i group count : ℕ) → IsUnderWay own a → happened_count a ≤ i
        → i < happened_count c → IsRowStep own i (Need group count)
        → (i < happened_count b) ⊎ (happened_count b ≤ i) → ⊥
    by_place own i group count u x y r (inl l) = h.free own i group count u x l r
    by_place own i group count u x y r (inr le) = k.free own i group count (h.under_way own u) le y r

-- it has not gone back
pub goes_later : (until : ℕ) (old new : PlayedRow) → GoesOn until old new → happened_count old ≤ happened_count new
goes_later until old new h =
    omega (arith, ap length h.happened, length-append (happened_of old) h.more)

due_free : (o : Option ℕ) (step : Step) (due : ℕ) → state_of o (Some step) ≡ Due due → is_need step ≡ false
due_free None step due h = let e : Ended ≡ Due due = h in absurd cc
due_free (Some n) (Event event) due h = refl
due_free (Some n) (Post group) due h = refl
due_free (Some n) (Need group count) due h = let e : Waits group count ≡ Due due = h in absurd cc

comes_same : (said : Step) → is_need said ≡ false → ComesTo said said
comes_same (Event event) h = refl
comes_same (Post group) h = refl
comes_same (Need group count) h = let e : true ≡ false = h in absurd cc

not_need : (step : Step) (group count : ℕ) → is_need step ≡ false → step ≡ Need group count → ⊥
not_need step group count free is = let e : true ≡ false = sym (ap is_need is) ∙ free in cc

one_goes_on : (until due : ℕ) (old new : PlayedRow) (step : Step) → row_state old ≡ Due due → due ≤ until
    → slice_get old.steps.items old.place ≡ Some step → IsAdvanced step old new → GoesOn until old new
one_goes_on until due old new step is le at h =
    record {
      steps = h.steps;
      repeated = h.repeated;
      more = step ∷ [];
      happened = h.happened;
      under_way = λ own u. advanced_under_way own step step old new h at (comes_same step free) u;
      free = λ own k group count u a b r. never own k group count u a b r;
      made = λ own latest u l m.
          advanced_made step old new latest h (omega (arith, le, l, sym (due_at u.second))) m;
    }
  where
    free : is_need step ≡ false
    free = due_free old.second step due (ap (state_of old.second) (sym at) ∙ is)

    due_at : IsAtSecond old → due ≡ second_of_row old
    due_at e =
        subst (λ o. MatchOption o (2 ^ 64 ≤ second_of_row old) (λ d. d ≡ second_of_row old))
        (due_second old.second (slice_get old.steps.items old.place) due is) e

    never : (own : List Step) (k group count : ℕ) → IsUnderWay own old → happened_count old ≤ k
        → k < happened_count new → IsRowStep own k (Need group count) → ⊥
    never own k group count u a b r =
        let here : slice_get own old.place ≡ Some step = ap (λ l. slice_get l old.place) (sym u.steps) ∙ at in
        let place : k ≡ happened_count old = omega (arith, a, b, advanced_count step old new h) in
        let same = one_way (length own) r.turn u.turns r.place old.place
        (slice_get_within own r.place (Need group count) r.step) (slice_get_within own old.place step here)
        (sym r.at ∙ place ∙ u.count) in
        let e : Some step ≡ Some (Need group count) = sym here ∙ ap (slice_get own) (sym same.1) ∙ r.step in
        let k : step ≡ Need group count = cc in
        not_need step group count free k

-- its next step, which is due, has happened
pub due_goes_on : (until : ℕ) (old mid new : PlayedRow) (due : ℕ) → row_state old ≡ Due due → due ≤ until → mid ≡ old
    → ((step : Step) → slice_get mid.steps.items mid.place ≡ Some step → IsAdvanced step mid new)
    → GoesOn until old new
due_goes_on until old mid new due is le same advanced =
    let found = item_at old.steps.items old.place (due_within old due is) in
    let here : slice_get mid.steps.items mid.place ≡ Some found.0 =
    ap (λ (r : PlayedRow). slice_get r.steps.items r.place) same ∙ found.1 in
    one_goes_on until due old new found.0 is le found.1
    (subst (λ r. IsAdvanced found.0 r new) same (advanced found.0 here))

pub still_under_way : (until : ℕ) (own : List Step) (old new : PlayedRow) → IsUnderWay own old → GoesOn until old new
    → IsUnderWay own new
still_under_way until own old new h g = g.under_way own h
