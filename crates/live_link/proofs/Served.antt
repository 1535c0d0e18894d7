-- A session, put together from its steps.
use Rattle.std.proofs.Common.{◌≡◌, ◌⊎◌, inl, inr, ℕ, Bool, ◌||◌, true, false, List, [], ◌∷◌, ◌++◌}
use Rattle.std.proofs.Common.{Option, Result, Ok, Err, ◌↔◌, OnOk, IfErr, refl, sym, ap, subst, ◌∙◌, append_assoc}
use Rattle.std.proofs.Common.{append-nil, arith, zero-add}
use Rattle.std.specs.Bool.{IsTrue}
use Rattle.std.specs.List.{AllByRecursion}
use Rattle.lemmas.proofs.Tests.{never_both}
use Rattle.device_machine.specs.declared.event.Event.{Event as Happening}
use Rattle.device_machine.specs.declared.event.Event.TheVariants.{Recv, Put, Firmware, Tick}
use Rattle.device_machine.specs.declared.fault.StepFault.TheVariants as faults
use Rattle.device_machine.specs.State.{DeviceState, Machine, Device, Shows}
use Rattle.device_machine.specs.Reactions.{outputs_of, flat_after, is_refused, passes_end}
use Rattle.scenario_image.specs.declared.step.Step.{Step}
use Rattle.scenario_image.specs.declared.step.Step.TheVariants.{Event}
use Rattle.scenario_image.specs.Play.{state_after, step_after, step_outputs}
use Rattle.scenario_image.proofs.Played.{after_push}
use Rattle.live_link.specs.declared.packet.Packet.{Packet}
use Rattle.live_link.specs.declared.session.LiveEnd.{LiveEnd}
use Rattle.live_link.specs.declared.session.LiveEnd.TheVariants.{Turns, ReceiveFault, SendFault, Memory, Spent}
use Rattle.live_link.specs.Wire.{Traffic, Carries, traffic_and}
use Rattle.live_link.specs.Live.{IsLiveStep, IsPastEnd, IsSendStopped, IsSentAt, packets_in, sent_by, failures_at}
use Rattle.live_link.specs.Live.{most_refusals, refused_at}
use Rattle.live_link.specs.Serving.{AreSent, AreCutShort, IsBroken, IsEarlyEnd, IsSendEnd, IsServing, IsStepEnd}
use Rattle.live_link.proofs.Sent.{carries_both}

-- ---- one step more

-- what steps output, with one step more
pub sent_push : (f : Machine) (steps : List Step) (step : Step)
    → sent_by f (steps ++ step ∷ []) ≡ sent_by f steps ++ packets_in (step_outputs (state_after f steps) step)
sent_push f [] step = append-nil (packets_in (step_outputs f step))
sent_push f (s ∷ steps) step =
    ap (λ ps. packets_in (step_outputs f s) ++ ps) (sent_push (step_after f s) steps step)
    ∙ sym (append_assoc (packets_in (step_outputs f s)) (sent_by (step_after f s) steps)
    (packets_in (step_outputs (state_after (step_after f s) steps) step)))

live_push : (steps : List Step) (step : Step) → AllByRecursion IsLiveStep steps → IsLiveStep step
    → AllByRecursion IsLiveStep (steps ++ step ∷ [])
live_push [] step all one = (one, tt)
live_push (s ∷ steps) step all one = (all.0, live_push steps step all.1 one)

-- an event that is taken is not refused
pub accepted : {T : Type 0} (o : T) (b : Bool) → ((Ok o ≡ Err faults.Spent) ↔ IsTrue b) → b ≡ false
accepted o false h = refl
accepted o true h = let e : Ok o ≡ Err faults.Spent = h.1 refl in absurd cc

-- a spent device refuses each event
spent_refuses : (device : Device) (event : Happening) → device.spent ≡ true → is_refused device event ≡ false → ⊥
spent_refuses device event spent free =
    never_both (is_refused device event) (ap (λ b. b || passes_end device.flat.kept.clock event) spent) free

told_more : (received : List (Option Packet)) (sent gone : List Packet) (failures refusals : ℕ)
    → traffic_and (record { received = received; taken = sent; failures = 0; refusals = 0 })
    (record { received = []; taken = gone; failures = failures; refusals = refusals })
    ≡ record { received = received; taken = sent ++ gone; failures = failures; refusals = refusals }
told_more received sent gone failures refusals =
    let h = append-nil received in
    let f = zero-add failures in
    let r = zero-add refusals in
    cc

-- the step was taken, and all that it output was sent
pub step_served : (first : Device) (before : Option Traffic) (received : List (Option Packet)) (device newer : Device)
    (steps more : List Step) (sent noted : List Packet) (between after : Option Traffic) (event : Happening)
    (gone : List Packet) → IsServing first before received device steps sent between → IsLiveStep (Event event)
    → ((f : Machine) → Shows device f → Shows newer (flat_after f event)) → is_refused device event ≡ false
    → ((f : Machine) → Shows device f → gone ≡ packets_in (outputs_of f event))
    → AreSent gone 0 0 sent noted between after → more ≡ steps ++ Event event ∷ []
    → IsServing first before received newer more noted after
step_served first before received device newer steps more sent noted between after event gone h live shows free
    put_out went e =
    subst (λ (s : List Step). IsServing first before received newer s noted after) (sym e) (record {
      shows = λ f k. subst (Shows newer) (sym (after_push f steps (Event event)))
          (shows (state_after f steps) (h.shows f k));
      deaf = λ k. absurd (spent_refuses device event (h.deaf k).0 free);
      put_out = λ f k. went.noted ∙ ap (λ s. s ++ gone) (h.put_out f k)
          ∙ ap (λ g. sent_by f steps ++ g) (put_out (state_after f steps) (h.shows f k))
          ∙ sym (sent_push f steps (Event event));
      told = subst (λ (s : List Packet). Carries before after
          (record { received = received; taken = s; failures = 0; refusals = 0 })) (sym went.noted)
          (carries_both before between after _ _ _ h.told went.told (told_more received sent gone 0 0));
      live = live_push steps (Event event) h.live live;
    })

-- ---- where it is broken off

send_early : (end : LiveEnd) → IsSendEnd end → IsEarlyEnd end
send_early Turns h = absurd h
send_early ReceiveFault h = absurd h
send_early SendFault h = tt
send_early Memory h = tt
send_early Spent h = absurd h

pub send_at_step : (end : LiveEnd) → IsSendEnd end → IsStepEnd end
send_at_step Turns h = absurd h
send_at_step ReceiveFault h = absurd h
send_at_step SendFault h = tt
send_at_step Memory h = tt
send_at_step Spent h = absurd h

stopped_at : (end : LiveEnd) (f : Machine) (steps : List Step) (sent : List Packet) → IsSendEnd end
    → IsSendStopped f steps sent → IsSentAt end (most_refusals end) f steps sent
stopped_at Turns f steps sent h k = absurd h
stopped_at ReceiveFault f steps sent h k = absurd h
stopped_at SendFault f steps sent h k = k
stopped_at Memory f steps sent h k = inr k
stopped_at Spent f steps sent h k = absurd h

none_refused : (end : LiveEnd) → IsSendEnd end → 0 ≡ refused_at end (most_refusals end)
none_refused Turns h = absurd h
none_refused ReceiveFault h = absurd h
none_refused SendFault h = refl
none_refused Memory h = refl
none_refused Spent h = absurd h

send_not_spent : (end : LiveEnd) → IsSendEnd end → end ≡ Spent → ⊥
send_not_spent end h e = let k : IsSendEnd Spent = subst IsSendEnd e h in k

-- the step was taken, and what it output was not all sent
pub step_cut : (end : LiveEnd) (first : Device) (before : Option Traffic) (received : List (Option Packet))
    (device : Device) (steps more : List Step) (sent noted : List Packet) (between after : Option Traffic)
    (event : Happening) (all : List Packet) → IsServing first before received device steps sent between
    → IsLiveStep (Event event) → is_refused device event ≡ false
    → ((f : Machine) → Shows device f → all ≡ packets_in (outputs_of f event))
    → AreCutShort end all sent noted between after → more ≡ steps ++ Event event ∷ []
    → IsBroken end first before received (steps ++ Event event ∷ []) more noted after
step_cut end first before received device steps more sent noted between after event all h live free put_out cut e =
    subst (λ (s : List Step). IsBroken end first before received (steps ++ Event event ∷ []) s noted after) (sym e)
    (record {
      early = send_early end cut.sending;
      refusals = most_refusals end;
      few = omega arith;
      told = subst (λ (s : List Packet). Carries before after
          (record { received = received; taken = s; failures = failures_at end; refusals = most_refusals end }))
          (sym cut.sent.noted) (carries_both before between after _ _ _ h.told cut.sent.told
          (told_more received sent cut.gone (failures_at end) (most_refusals end)));
      refused = [];
      given_are = sym (append-nil (steps ++ Event event ∷ []));
      refused_count = none_refused end cut.sending;
      live = live_push steps (Event event) h.live live;
      put_out = λ f k. stopped_at end f (steps ++ Event event ∷ []) noted cut.sending (record {
        before = steps;
        last = Event event;
        steps_are = refl;
        gone = cut.gone;
        failed = cut.failed;
        rest = cut.rest;
        output = sym (put_out (state_after f steps) (h.shows f k)) ∙ cut.all_are;
        sent_is = cut.sent.noted ∙ ap (λ s. s ++ cut.gone) (h.put_out f k);
      });
      past_end = λ f k s. absurd (send_not_spent end cut.sending s);
      deaf = λ k. absurd (spent_refuses device event (h.deaf k).0 free);
    })

-- a device that is not spent refuses nothing but what passes its last second
pub refused_late : (device : Device) (f : Machine) (event : Happening) → Shows device f → is_refused device event ≡ true
    → passes_end f.kept.clock event ≡ true
refused_late device f event h refused =
    ap (λ (k : DeviceState). passes_end k.clock event) (sym h.kept)
    ∙ ap (λ b. b || passes_end device.flat.kept.clock event) (sym h.ready) ∙ refused

past_end_at : (f : Machine) (steps : List Step) (event : Happening)
    → passes_end (state_after f steps).kept.clock event ≡ true → IsPastEnd f steps (Event event ∷ [])
past_end_at f steps (Recv server bytes) h = let e : false ≡ true = h in absurd cc
past_end_at f steps (Put path value) h = let e : false ≡ true = h in absurd cc
past_end_at f steps (Firmware code) h = let e : false ≡ true = h in absurd cc
past_end_at f steps (Tick seconds) h = record { seconds = seconds; refused_is = refl; passes = h }

-- no memory was left for the step
refused_for_memory : (first : Device) (before : Option Traffic) (received : List (Option Packet)) (device : Device)
    (steps : List Step) (sent : List Packet) (after : Option Traffic) (event : Happening)
    → IsServing first before received device steps sent after
    → IsBroken Memory first before received (steps ++ Event event ∷ []) steps sent after
refused_for_memory first before received device steps sent after event h =
    record {
      early = tt;
      refusals = 0;
      few = omega arith;
      told = h.told;
      refused = Event event ∷ [];
      given_are = refl;
      refused_count = refl;
      live = h.live;
      put_out = h.put_out;
      past_end = λ f k e. absurd cc;
      deaf = λ k. (h.deaf k).1;
    }

-- the step passes the last second, or the device was spent
refused_as_spent : (first : Device) (before : Option Traffic) (received : List (Option Packet)) (device : Device)
    (steps : List Step) (sent : List Packet) (after : Option Traffic) (event : Happening)
    → IsServing first before received device steps sent after → is_refused device event ≡ true
    → IsBroken Spent first before received (steps ++ Event event ∷ []) steps sent after
refused_as_spent first before received device steps sent after event h refused =
    record {
      early = tt;
      refusals = 0;
      few = omega arith;
      told = h.told;
      refused = Event event ∷ [];
      given_are = refl;
      refused_count = refl;
      live = h.live;
      put_out = h.put_out;
      past_end = λ f k e. past_end_at f steps event
          (refused_late device (state_after f steps) event (h.shows f k) refused);
      deaf = λ k. (h.deaf k).1;
    }

-- the step was refused
pub step_refused : (end : LiveEnd) (first : Device) (before : Option Traffic) (received : List (Option Packet))
    (device : Device) (steps more : List Step) (sent noted : List Packet) (after : Option Traffic) (event : Happening)
    → IsServing first before received device steps sent after
    → (end ≡ Memory) ⊎ ((end ≡ Spent) × IsTrue (is_refused device event)) → more ≡ steps → noted ≡ sent
    → IsBroken end first before received (steps ++ Event event ∷ []) more noted after
step_refused end first before received device steps more sent noted after event h (inl m) e n =
    subst (λ (x : LiveEnd). IsBroken x first before received (steps ++ Event event ∷ []) more noted after) (sym m)
    (subst (λ (s : List Step). IsBroken Memory first before received (steps ++ Event event ∷ []) s noted after) (sym e)
    (subst (λ (s : List Packet). IsBroken Memory first before received (steps ++ Event event ∷ []) steps s after)
    (sym n) (refused_for_memory first before received device steps sent after event h)))
step_refused end first before received device steps more sent noted after event h (inr (m, refused)) e n =
    subst (λ (x : LiveEnd). IsBroken x first before received (steps ++ Event event ∷ []) more noted after) (sym m)
    (subst (λ (s : List Step). IsBroken Spent first before received (steps ++ Event event ∷ []) s noted after) (sym e)
    (subst (λ (s : List Packet). IsBroken Spent first before received (steps ++ Event event ∷ []) steps s after)
    (sym n) (refused_as_spent first before received device steps sent after event h refused)))

pub refused_at_step : (end : LiveEnd) (b : Bool) → (end ≡ Memory) ⊎ ((end ≡ Spent) × IsTrue b) → IsStepEnd end
refused_at_step end b (inl m) = subst IsStepEnd (sym m) tt
refused_at_step end b (inr (m, refused)) = subst IsStepEnd (sym m) tt

-- ---- results

pub on_ok : {A E P Q : Type 0} (r : Result A E) → OnOk r P → (P → Q) → OnOk r Q
on_ok (Ok x) h f = f h
on_ok (Err e) h f = tt

pub on_ok_with : {A E P R Q : Type 0} (r : Result A E) → OnOk r P → OnOk r R → (P → R → Q) → OnOk r Q
on_ok_with (Ok x) h k f = f h k
on_ok_with (Err e) h k f = tt

pub if_err : {A E : Type 0} {P Q : E → Type 0} (r : Result A E) → IfErr r P → ((e : E) → P e → Q e) → IfErr r Q
if_err (Ok x) h f = tt
if_err (Err e) h f = f e h
