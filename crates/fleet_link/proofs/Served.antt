-- One device, step by step.
use Rattle.std.proofs.Common.{◌≡◌, ◌⊎◌, inl, inr, ℕ, ◌+◌, ◌≤◌, ◌<◌, Bool, true, false, List, [], ◌∷◌, ◌++◌}
use Rattle.std.proofs.Common.{Option, None, Some, Result, Ok, Err, ◌↔◌, OnOk, IfErr, refl, sym, ap, subst, ◌∙◌}
use Rattle.std.proofs.Common.{append_assoc, append-nil, arith, add-zero}
use Rattle.std.specs.Bool.{IsTrue}
use Rattle.std.specs.Option.{IfSome, MatchOption}
use Rattle.lemmas.proofs.Lists.{each_pushed}
use Rattle.device_machine.specs.declared.event.Event.{Event as Happening}
use Rattle.device_machine.specs.declared.event.Event.TheVariants.{Recv, Put, Firmware, Tick}
use Rattle.device_machine.specs.declared.fault.StepFault.TheVariants as faults
use Rattle.device_machine.specs.Held.{IsNextSending, IsSilent}
use Rattle.device_machine.specs.State.{Machine, Device, Shows}
use Rattle.device_machine.specs.Reactions.{outputs_of, flat_after, is_refused, passes_end}
use Rattle.device_template.specs.Template.{Template}
use Rattle.fleet_core.proofs.Clock.{recv_clock, put_clock, firmware_clock}
use Rattle.scenario_image.specs.declared.step.Step.{Step}
use Rattle.scenario_image.specs.declared.step.Step.TheVariants.{Event, Post, Need}
use Rattle.scenario_image.specs.Play.{start, state_after, step_after}
use Rattle.scenario_image.proofs.Played.{after_push}
use Rattle.live_link.proofs.Served.{sent_push, refused_late}
use Rattle.live_link.specs.declared.packet.Packet.{Packet}
use Rattle.live_link.specs.Live.{packets_in, sent_by}
use Rattle.fleet_link.specs.declared.row.RowState.{RowState}
use Rattle.fleet_link.specs.declared.row.RowState.TheVariants.{Due, Ended, Waits}
use Rattle.fleet_link.specs.declared.recording.Recording.{Recording}
use Rattle.fleet_link.specs.declared.slot.DeviceEnd.{DeviceEnd}
use Rattle.fleet_link.specs.declared.slot.DeviceEnd.TheVariants.{Memory, Port, Spent}
use Rattle.fleet_link.specs.declared.slot.Slot.{Slot}
use Rattle.fleet_link.specs.Playing.{change_at, change_in, changes_by, changes_of, row_state, second_after, second_by}
use Rattle.fleet_link.specs.Playing.{Change, IsFleetStep, IsLaterThan, IsOnTime, IsTimely, IsUnderWay}
use Rattle.fleet_link.specs.Recorded.{IsRecorded}
use Rattle.fleet_link.specs.Serving.{heard_at, heard_by, IsDue, IsEndOf, IsNearEnd, IsServed, IsServing}
use Rattle.fleet_link.specs.Serving.{IsSweptAt}
use Rattle.fleet_link.specs.Traffic.{Carries, ReceivedPacket, Traffic, failed_once, handed_at, no_traffic, sent_all}
use Rattle.fleet_link.specs.Traffic.{traffic_and}
use Rattle.fleet_link.proofs.Recordings.{recorded_on, IsSame}
use Rattle.fleet_link.proofs.Told.{carries_both, carries_on, traffic_of}

-- ---- one step more

pub second_push : (n : ℕ) (steps : List Step) (step : Step)
    → second_by n (steps ++ step ∷ []) ≡ second_after (second_by n steps) step
second_push n [] step = refl
second_push n (s ∷ steps) step = second_push (second_after n s) steps step

pub changes_push : (n : ℕ) (steps : List Step) (step : Step)
    → changes_by n (steps ++ step ∷ []) ≡ changes_by n steps ++ change_at (second_by n steps) (change_in step)
changes_push n [] step = append-nil (change_at n (change_in step))
changes_push n (s ∷ steps) step =
    ap (λ cs. change_at n (change_in s) ++ cs) (changes_push (second_after n s) steps step)
    ∙ sym (append_assoc (change_at n (change_in s)) (changes_by (second_after n s) steps)
    (change_at (second_by (second_after n s) steps) (change_in step)))

heard_push : (n : ℕ) (steps : List Step) (step : Step)
    → heard_by n (steps ++ step ∷ []) ≡ heard_by n steps ++ heard_at (second_by n steps) step
heard_push n [] step = append-nil (heard_at n step)
heard_push n (s ∷ steps) step =
    ap (λ hs. heard_at n s ++ hs) (heard_push (second_after n s) steps step)
    ∙ sym (append_assoc (heard_at n s) (heard_by (second_after n s) steps)
    (heard_at (second_by (second_after n s) steps) step))

-- what was pending is received
heard_more : (steps : List Step) (step : Step) (rest : List ReceivedPacket)
    → heard_by 0 steps ++ (heard_at (second_by 0 steps) step ++ rest) ≡ heard_by 0 (steps ++ step ∷ []) ++ rest
heard_more steps step rest =
    sym (append_assoc (heard_by 0 steps) (heard_at (second_by 0 steps) step) rest)
    ∙ ap (λ hs. hs ++ rest) (sym (heard_push 0 steps step))

-- ---- a device's own clock

step_clock : (f : Machine) (step : Step) → (step_after f step).kept.clock ≡ second_after f.kept.clock step
step_clock f (Event (Recv server bytes)) = recv_clock f server bytes
step_clock f (Event (Put path value)) = put_clock f path value
step_clock f (Event (Firmware code)) = firmware_clock f code
step_clock f (Event (Tick seconds)) = refl
step_clock f (Post group) = refl
step_clock f (Need group count) = refl

-- the clock of a device shows the second of its steps
pub clock_by : (f : Machine) (steps : List Step) → (state_after f steps).kept.clock ≡ second_by f.kept.clock steps
clock_by f [] = refl
clock_by f (step ∷ steps) =
    clock_by (step_after f step) steps ∙ ap (λ n. second_by n steps) (step_clock f step)

-- ---- an event

pub accepted : {T : Type 0} (o : T) (b : Bool) → ((Ok o ≡ Err faults.Spent) ↔ IsTrue b) → b ≡ false
accepted o false h = refl
accepted o true h = let e : Ok o ≡ Err faults.Spent = h.1 refl in absurd cc

-- the step was taken, and all that it output was sent
pub step_served : (f : Machine) (before : Option Traffic) (rest : List ReceivedPacket) (device newer : Device)
    (second : ℕ)
    (recording longer : Recording) (between after : Option Traffic) (event : Happening) (gone : List Packet)
    (changes : List Change)
    → IsServing f before (heard_at second (Event event) ++ rest) changes None device second recording between
    → IsFleetStep (Event event)
    → ((g : Machine) → Shows device g → Shows newer (flat_after g event))
    → ((g : Machine) → Shows device g → gone ≡ packets_in (outputs_of g event))
    → Carries between after (sent_all gone)
    → ((steps : List Step) → IsRecorded recording steps → IsRecorded longer (steps ++ Event event ∷ []))
    → IsServing f before rest (changes ++ change_at second (change_in (Event event))) None newer
    (second_after second (Event event)) longer after
step_served f before rest device newer second recording longer between after event gone changes h live shows put_out
    went noted =
    let showed : Shows device (state_after f h.steps) = h.shows refl in
    let heard : heard_by 0 h.steps ++ (heard_at second (Event event) ++ rest)
    ≡ heard_by 0 (h.steps ++ Event event ∷ []) ++ rest =
    ap (λ n. heard_by 0 h.steps ++ (heard_at n (Event event) ++ rest)) h.clock
    ∙ heard_more h.steps (Event event) rest in
    let sent : sent_by f h.steps ++ gone ≡ sent_by f (h.steps ++ Event event ∷ []) =
    ap (λ ps. sent_by f h.steps ++ ps) (put_out (state_after f h.steps) showed)
    ∙ sym (sent_push f h.steps (Event event)) in
    record {
      steps = h.steps ++ Event event ∷ [];
      failures = h.failures;
      told = carries_both before between after _ (sent_all gone) _ h.told went
          (same_traffic _ _ _ _ _ _ (append-nil _ ∙ heard) sent (add-zero h.failures));
      clock = ap (λ n. second_after n (Event event)) h.clock ∙ sym (second_push 0 h.steps (Event event));
      each = each_pushed IsFleetStep h.steps (Event event) h.each live;
      changed = changes_push 0 h.steps (Event event)
          ∙ ap (λ n. changes_by 0 h.steps ++ change_at n (change_in (Event event))) (sym h.clock)
          ∙ ap (λ cs. cs ++ change_at second (change_in (Event event))) h.changed;
      shows = λ e. subst (Shows newer) (sym (after_push f h.steps (Event event)))
          (shows (state_after f h.steps) showed);
      ended = h.ended;
      recorded = noted h.steps h.recorded;
    }
  where
    same_traffic : (a b : List ReceivedPacket) (p q : List Packet) (m n : ℕ) → a ≡ b → p ≡ q → m ≡ n
        → traffic_of a p m ≡ traffic_of b q n
    same_traffic a b p q m n x y z = cc

near_end : (f : Machine) (steps : List Step) (event : Happening) → IsFleetStep (Event event)
    → passes_end (state_after f steps).kept.clock event ≡ true → IsNearEnd f steps
near_end f steps (Recv server bytes) live h = let e : false ≡ true = h in absurd cc
near_end f steps (Put path value) live h = let e : false ≡ true = h in absurd cc
near_end f steps (Firmware code) live h = let e : false ≡ true = h in absurd cc
near_end f steps (Tick seconds) live h = record { seconds = seconds; few = live.1; passes = h }

end_refused : (end : DeviceEnd) (f : Machine) (steps : List Step) (device : Device) (event : Happening)
    → Shows device (state_after f steps) → IsFleetStep (Event event)
    → (end ≡ Memory) ⊎ ((end ≡ Spent) × IsTrue (is_refused device event)) → (failures : ℕ)
    → IsEndOf (Some end) f steps failures
end_refused end f steps device event shows live (inl m) failures =
    subst (λ x. IsEndOf (Some x) f steps failures) (sym m) tt
end_refused end f steps device event shows live (inr (m, refused)) failures =
    subst (λ x. IsEndOf (Some x) f steps failures) (sym m)
    (near_end f steps event live (refused_late device (state_after f steps) event shows refused))

-- the step was refused, or no memory was left for it: nothing was sent
pub step_refused : (end : DeviceEnd) (f : Machine) (before : Option Traffic) (pending : List ReceivedPacket)
    (device newer : Device) (second : ℕ) (recording other : Recording) (after : Option Traffic) (event : Happening)
    (changes : List Change)
    → IsServing f before pending changes None device second recording after → IsFleetStep (Event event)
    → (end ≡ Memory) ⊎ ((end ≡ Spent) × IsTrue (is_refused device event))
    → IsSame recording other → other.complete ≡ recording.complete
    → IsServing f before pending changes (Some end) newer second other after
step_refused end f before pending device newer second recording other after event changes h live kind same complete =
    record {
      steps = h.steps;
      failures = h.failures;
      told = h.told;
      clock = h.clock;
      each = h.each;
      changed = h.changed;
      shows = λ e. absurd cc;
      ended = end_refused end f h.steps device event (h.shows refl) live kind h.failures;
      recorded = recorded_on recording other h.steps same complete h.recorded;
    }

pub not_port : (end : DeviceEnd) (b : Bool) → (end ≡ Memory) ⊎ ((end ≡ Spent) × IsTrue b) → end ≡ Port → ⊥
not_port end b (inl m) e = let k : Memory ≡ Port = sym m ∙ e in cc
not_port end b (inr (m, refused)) e = let k : Spent ≡ Port = sym m ∙ e in cc

-- ---- a device at rest

-- its clock shows its second
shown_clock : (class : Template) (before : Option Traffic) (pending : List ReceivedPacket) (changes : List Change)
    (device : Device) (second : ℕ) (recording : Recording) (after : Option Traffic)
    (h : IsServing (start class) before pending changes None device second recording after)
    → (state_after (start class) h.steps).kept.clock ≡ second
shown_clock class before pending changes device second recording after h =
    clock_by (start class) h.steps ∙ sym h.clock

later_than : (f : Machine) (due : Option ℕ) (second : ℕ) → f.kept.clock ≡ second
    → MatchOption due (IsSilent f) (IsNextSending f) → IfSome due (λ d. second < d)
later_than f None second e h = tt
later_than f (Some d) second e h = subst (λ n. n < d) e h.later

pub rests : (class : Template) (own : List Step) (before : Option Traffic) (slot : Slot) (broken : Bool)
    (after : Option Traffic)
    → IsServing (start class) before [] (changes_of slot.row) None slot.device slot.second slot.recording after
    → slot.end ≡ None → IsDue slot.device slot.due → IsUnderWay own slot.row → IsOnTime slot.row slot.second
    → IsServed class own before slot broken after
rests class own before slot broken after h e due row time =
    record {
      unheard = [];
      serving = subst (λ x. IsServing (start class) before [] (changes_of slot.row) x slot.device slot.second
          slot.recording after) (sym e) h;
      row_is = row;
      on_time = λ _. time;
      heard = λ _. refl;
      due = λ _. due;
      later = λ _. later_than (state_after (start class) h.steps) slot.due slot.second
          (shown_clock class before [] (changes_of slot.row) slot.device slot.second slot.recording after h)
          (due (state_after (start class) h.steps) (h.shows refl));
      memory = λ m. let k : None ≡ Some Memory = sym e ∙ m in absurd cc;
    }

pub is_over : (class : Template) (own : List Step) (before : Option Traffic) (pending : List ReceivedPacket)
    (end : DeviceEnd)
    (slot : Slot) (broken : Bool) (after : Option Traffic)
    → IsServing (start class) before pending (changes_of slot.row) (Some end) slot.device slot.second slot.recording
    after → slot.end ≡ Some end → IsUnderWay own slot.row
    → (slot.end ≡ Some Memory → broken ≡ true) → IsServed class own before slot broken after
is_over class own before pending end slot broken after h e row memory =
    record {
      unheard = pending;
      serving = subst (λ x. IsServing (start class) before pending (changes_of slot.row) x slot.device slot.second
          slot.recording after) (sym e) h;
      row_is = row;
      on_time = λ k. let m : Some end ≡ None = sym e ∙ k in absurd cc;
      heard = λ k. let m : Some end ≡ None = sym e ∙ k in absurd cc;
      due = λ k. let m : Some end ≡ None = sym e ∙ k in absurd cc;
      later = λ k. let m : Some end ≡ None = sym e ∙ k in absurd cc;
      memory = memory;
    }

serving_as : (f : Machine) (before : Option Traffic) (pending : List ReceivedPacket) (end : Option DeviceEnd)
    (old new : Slot)
    (after : Option Traffic) → new.device ≡ old.device → new.second ≡ old.second → new.row ≡ old.row
    → new.recording ≡ old.recording
    → IsServing f before pending (changes_of old.row) end old.device old.second old.recording after
    → IsServing f before pending (changes_of new.row) end new.device new.second new.recording after
serving_as f before pending end old new after d s w r h =
    subst (λ x. IsServing f before pending (changes_of new.row) end x new.second new.recording after) (sym d)
    (subst (λ x. IsServing f before pending (changes_of new.row) end old.device x new.recording after) (sym s)
    (subst (λ x. IsServing f before pending (changes_of x) end old.device old.second new.recording after) (sym w)
    (subst (λ x. IsServing f before pending (changes_of old.row) end old.device old.second x after) (sym r) h)))

time_as : (old new : Slot) → new.second ≡ old.second → new.row ≡ old.row → IsOnTime old.row old.second
    → IsOnTime new.row new.second
time_as old new s w h =
    subst (λ x. IsOnTime x new.second) (sym w) (subst (λ x. IsOnTime old.row x) (sym s) h)

-- what a step came to, and how the device is then
pub settled : {T : Type 0} (class : Template) (own : List Step) (before : Option Traffic)
    (pending : List ReceivedPacket)
    (taken : Result T DeviceEnd) (broken : Bool) (stepped slot : Slot) (after : Option Traffic)
    → OnOk taken (IsServing (start class) before [] (changes_of stepped.row) None stepped.device stepped.second
    stepped.recording after) → OnOk taken (IsOnTime stepped.row stepped.second)
    → IfErr taken (λ end. IsServing (start class) before pending (changes_of stepped.row) (Some end) stepped.device
    stepped.second stepped.recording after) → IsUnderWay own stepped.row
    → slot.device ≡ stepped.device → slot.second ≡ stepped.second → slot.row ≡ stepped.row
    → slot.recording ≡ stepped.recording
    → OnOk taken ((slot.end ≡ None) × IsDue slot.device slot.due) → IfErr taken (λ end. slot.end ≡ Some end)
    → (slot.end ≡ Some Memory → broken ≡ true) → IsServed class own before slot broken after
settled class own before pending (Ok x) broken stepped slot after served time refused row d s w r ok ended memory =
    rests class own before slot broken after
    (serving_as (start class) before [] None stepped slot after d s w r served) ok.0 ok.1
    (subst (IsUnderWay own) (sym w) row) (time_as stepped slot s w time)
settled class own before pending (Err end) broken stepped slot after served time refused row d s w r ok ended memory =
    is_over class own before pending end slot broken after
    (serving_as (start class) before pending (Some end) stepped slot after d s w r refused) ended
    (subst (IsUnderWay own) (sym w) row) memory

pub some_over : {X : Type 0} (o : Option X) (x : X) → o ≡ Some x → o ≡ None → ⊥
some_over o x is none = let e : Some x ≡ None = sym is ∙ none in cc

-- ---- when a device is due

due_after : (class : Template) (own : List Step) (before : Option Traffic) (slot : Slot) (broken : Bool)
    (after : Option Traffic) (now second : ℕ) → IsServed class own before slot broken after → slot.end ≡ None
    → slot.second ≡ now → second ≤ now → IfSome slot.due (λ d. second < d)
due_after class own before slot broken after now second h e at le = later slot.due (h.later e)
  where
    later : (o : Option ℕ) → IfSome o (λ d. slot.second < d) → IfSome o (λ d. second < d)
    later None k = tt
    later (Some d) k = omega (arith, k, at, le)

later_still : (state : RowState) (now second : ℕ) → second ≤ now → IsLaterThan now state → IsLaterThan second state
later_still (Due d) now second le h = omega (arith, le, h)
later_still (Waits group count) now second le h = tt
later_still Ended now second le h = tt

-- one that was brought to a second has nothing to do then
pub swept_after : (class : Template) (own : List Step) (before : Option Traffic) (slot : Slot) (broken : Bool)
    (after : Option Traffic) (now second : ℕ) → IsServed class own before slot broken after → slot.end ≡ None
    → slot.second ≡ now → IsLaterThan now (row_state slot.row) → second ≤ now → IsSweptAt slot second
swept_after class own before slot broken after now second h e at row le =
    record {
      due = due_after class own before slot broken after now second h e at le;
      row = later_still (row_state slot.row) now second le row;
    }

some_due : (o : Option ℕ) (d second : ℕ) → o ≡ Some d → IfSome o (λ x. second < x) → second < d
some_due None d second e h = let k : None ≡ Some d = e in absurd cc
some_due (Some x) d second e h = let k : x ≡ d = cc in subst (λ y. second < y) k h

-- one that is due, or whose row is, is not past that second
pub due_reached : (class : Template) (own : List Step) (before : Option Traffic) (slot : Slot) (after : Option Traffic)
    (d now : ℕ) → IsServed class own before slot false after → slot.end ≡ None → slot.due ≡ Some d → d ≤ now
    → slot.second ≤ now
due_reached class own before slot after d now h e due le =
    let early : slot.second < d = some_due slot.due d slot.second due (h.later e) in omega (arith, early, le)

pub row_reached : (class : Template) (own : List Step) (before : Option Traffic) (slot : Slot) (after : Option Traffic)
    (d now : ℕ) → IsServed class own before slot false after → slot.end ≡ None → row_state slot.row ≡ Due d → d ≤ now
    → slot.second ≤ now
row_reached class own before slot after d now h e due le =
    let early : slot.second ≤ d = timely_at (row_state slot.row) due (h.on_time e).timely in omega (arith, early, le)
  where
    timely_at : (state : RowState) → state ≡ Due d → IsTimely slot.second state → slot.second ≤ d
    timely_at (Due x) is k = let q : x ≡ d = cc in subst (λ y. slot.second ≤ y) q k
    timely_at (Waits group count) is k = let q : Waits group count ≡ Due d = is in absurd cc
    timely_at Ended is k = let q : Ended ≡ Due d = is in absurd cc

-- one that was due, and was brought to this second
pub swept_by : (class : Template) (own : List Step) (before : Option Traffic) (old new : Slot) (broken : Bool)
    (x y : Option Traffic) (now : ℕ) → IsServed class own before old false x → IsServed class own before new broken y
    → (old.end ≡ None → old.second ≤ now) → (old.second ≤ now → new.end ≡ None → new.second ≡ now)
    → (new.end ≡ None → IsLaterThan now (row_state new.row)) → ((old.end ≡ None → ⊥) → new ≡ old)
    → new.end ≡ None → IsSweptAt new now
swept_by class own before old new broken x y now h k due reached row over e = by_end old.end refl
  where
    by_end : (o : Option DeviceEnd) → old.end ≡ o → IsSweptAt new now
    by_end None is =
        swept_after class own before new broken y now now k e (reached (due is) e) (row e) (omega arith)
    by_end (Some end) is =
        let same : new ≡ old = over (some_over old.end end is) in
        absurd (some_over old.end end is (ap (λ (s : Slot). s.end) (sym same) ∙ e))

-- ---- what goes on elsewhere

serving_on : (f : Machine) (before : Option Traffic) (pending : List ReceivedPacket) (changes : List Change)
    (end : Option DeviceEnd) (device : Device) (second : ℕ) (recording : Recording) (between after : Option Traffic)
    → IsServing f before pending changes end device second recording between → Carries between after no_traffic
    → IsServing f before pending changes end device second recording after
serving_on f before pending changes end device second recording between after h k =
    record {
      steps = h.steps;
      failures = h.failures;
      told = carries_on before between after _ h.told k;
      clock = h.clock;
      each = h.each;
      changed = h.changed;
      shows = h.shows;
      ended = h.ended;
      recorded = h.recorded;
    }

-- nothing went through the port of this device; the session may be broken off
pub served_on : (class : Template) (own : List Step) (before : Option Traffic) (slot : Slot) (broken : Bool)
    (between after : Option Traffic) → IsServed class own before slot false between → Carries between after no_traffic
    → IsServed class own before slot broken after
served_on class own before slot broken between after h k =
    record {
      unheard = h.unheard;
      serving = serving_on (start class) before h.unheard (changes_of slot.row) slot.end slot.device slot.second
          slot.recording between after h.serving k;
      row_is = h.row_is;
      on_time = h.on_time;
      heard = h.heard;
      due = h.due;
      later = h.later;
      memory = λ e. let m : false ≡ true = h.memory e in absurd cc;
    }

-- the port has handed out one more
pub handed_more : (f : Machine) (before : Option Traffic) (pending : List ReceivedPacket) (changes : List Change)
    (end : Option DeviceEnd) (device : Device) (second : ℕ) (recording : Recording) (between after : Option Traffic)
    (now : ℕ) (packet : Packet) → IsServing f before pending changes end device second recording between
    → Carries between after (handed_at now packet)
    → IsServing f before (pending ++ record { second = now; packet = packet } ∷ []) changes end device second recording
    after
handed_more f before pending changes end device second recording between after now packet h k =
    record {
      steps = h.steps;
      failures = h.failures;
      told = carries_both before between after _ (handed_at now packet) _ h.told k
          (same_traffic _ _ _ _ _ _ (append_assoc (heard_by 0 h.steps) pending _) (append-nil _)
          (add-zero h.failures));
      clock = h.clock;
      each = h.each;
      changed = h.changed;
      shows = h.shows;
      ended = h.ended;
      recorded = h.recorded;
    }
  where
    same_traffic : (a b : List ReceivedPacket) (p q : List Packet) (m n : ℕ) → a ≡ b → p ≡ q → m ≡ n
        → traffic_of a p m ≡ traffic_of b q n
    same_traffic a b p q m n x y z = cc

-- a device that has ended does not hear it
pub over_hears : (class : Template) (own : List Step) (before : Option Traffic) (slot : Slot)
    (between after : Option Traffic) (now : ℕ) (packet : Packet) → IsServed class own before slot false between
    → Carries between after (handed_at now packet)
    → (slot.end ≡ None → ⊥) → IsServed class own before slot false after
over_hears class own before slot between after now packet h k over =
    record {
      unheard = h.unheard ++ record { second = now; packet = packet } ∷ [];
      serving = handed_more (start class) before h.unheard (changes_of slot.row) slot.end slot.device slot.second
          slot.recording between after now packet h.serving k;
      row_is = h.row_is;
      on_time = h.on_time;
      heard = λ e. absurd (over e);
      due = h.due;
      later = h.later;
      memory = h.memory;
    }

-- one that goes on has it pending
pub goes_on : (class : Template) (own : List Step) (before : Option Traffic) (slot : Slot) (between : Option Traffic)
    → IsServed class own before slot false between → slot.end ≡ None
    → IsServing (start class) before [] (changes_of slot.row) None slot.device slot.second slot.recording between
goes_on class own before slot between h e =
    subst (λ x. IsServing (start class) before [] (changes_of slot.row) x slot.device slot.second slot.recording
    between) e
    (subst (λ u. IsServing (start class) before u (changes_of slot.row) slot.end slot.device slot.second slot.recording
    between) (h.heard e) h.serving)

pub pends : (class : Template) (own : List Step) (before : Option Traffic) (slot : Slot)
    (between after : Option Traffic) (now : ℕ) (packet : Packet) → IsServed class own before slot false between
    → Carries between after (handed_at now packet) → slot.end ≡ None
    → IsServing (start class) before (record { second = now; packet = packet } ∷ []) (changes_of slot.row) None
    slot.device slot.second slot.recording after
pends class own before slot between after now packet h k e =
    handed_more (start class) before [] (changes_of slot.row) None slot.device slot.second slot.recording between after
    now packet (goes_on class own before slot between h e) k

-- ---- its port failed

failures_more : (end : Option DeviceEnd) (f : Machine) (steps : List Step) (n : ℕ) → (end ≡ None → ⊥)
    → IsEndOf end f steps n → IsEndOf end f steps (n + 1)
failures_more None f steps n over h = absurd (over refl)
failures_more (Some Port) f steps n over h = omega arith
failures_more (Some Spent) f steps n over h = h
failures_more (Some Memory) f steps n over h = tt

failed_traffic : (a : List ReceivedPacket) (p : List Packet) (n : ℕ)
    → traffic_and (traffic_of a p n) failed_once ≡ traffic_of a p (n + 1)
failed_traffic a p n =
    let x = append-nil a in
    let y = append-nil p in
    cc

-- one that had ended before
pub over_fails : (class : Template) (own : List Step) (before : Option Traffic) (slot : Slot)
    (between after : Option Traffic)
    → IsServed class own before slot false between → Carries between after failed_once → (slot.end ≡ None → ⊥)
    → IsServed class own before slot false after
over_fails class own before slot between after h k over =
    let s = h.serving in
    record {
      unheard = h.unheard;
      serving = record {
        steps = s.steps;
        failures = s.failures + 1;
        told = carries_both before between after _ failed_once _ s.told k
            (failed_traffic (heard_by 0 s.steps ++ h.unheard) (sent_by (start class) s.steps) s.failures);
        clock = s.clock;
        each = s.each;
        changed = s.changed;
        shows = s.shows;
        ended = failures_more slot.end (start class) s.steps s.failures over s.ended;
        recorded = s.recorded;
      };
      row_is = h.row_is;
      on_time = h.on_time;
      heard = h.heard;
      due = h.due;
      later = h.later;
      memory = h.memory;
    }

-- one that went on ends
pub now_fails : (class : Template) (own : List Step) (before : Option Traffic) (slot other : Slot)
    (between after : Option Traffic)
    → IsServed class own before slot false between → Carries between after failed_once → slot.end ≡ None
    → other ≡ record slot { end = Some Port } → IsServed class own before other false after
now_fails class own before slot other between after h k e is =
    let s = h.serving in
    let served : IsServed class own before (record slot { end = Some Port }) false after = record {
      unheard = h.unheard;
      serving = record {
        steps = s.steps;
        failures = s.failures + 1;
        told = carries_both before between after _ failed_once _ s.told k
            (failed_traffic (heard_by 0 s.steps ++ h.unheard) (sent_by (start class) s.steps) s.failures);
        clock = s.clock;
        each = s.each;
        changed = s.changed;
        shows = λ k. absurd cc;
        ended = omega arith;
        recorded = s.recorded;
      };
      row_is = h.row_is;
      on_time = λ k. absurd cc;
      heard = λ k. absurd cc;
      due = λ k. absurd cc;
      later = λ k. absurd cc;
      memory = λ k. absurd cc;
    } in
    subst (λ x. IsServed class own before x false after) (sym is) served
