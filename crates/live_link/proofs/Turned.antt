-- A session, put together from its turns.
use Rattle.std.proofs.Common.{◌≡◌, ◌≢◌, ℕ, zero, suc, ◌+◌, ◌≤◌, inl, inr, List, [], ◌∷◌, ◌++◌, length}
use Rattle.std.proofs.Common.{Option, None, Some, refl, sym, ap, subst, ◌∙◌, append_assoc, append-nil, arith}
use Rattle.std.proofs.Common.{length-append, unwrap_or, zero-add}
use Rattle.device_machine.specs.declared.event.Event.TheVariants.{Tick}
use Rattle.device_machine.specs.State.{Device, Shows}
use Rattle.scenario_image.specs.declared.step.Step.{Step}
use Rattle.scenario_image.specs.declared.step.Step.TheVariants.{Event}
use Rattle.live_link.specs.declared.packet.Packet.{Packet}
use Rattle.live_link.specs.declared.session.LiveEnd.{LiveEnd}
use Rattle.live_link.specs.declared.session.LiveEnd.TheVariants.{Turns, ReceiveFault, SendFault, Memory, Spent}
use Rattle.live_link.specs.Wire.{Traffic, Carries, AreRead, traffic_and}
use Rattle.live_link.specs.Live.{heard_steps, tick_steps, turn_steps, AreCountsAt}
use Rattle.live_link.specs.Served.{IsSession}
use Rattle.live_link.specs.Serving.{passed_at, IsBroken, IsEarlyEnd, IsServing, IsStepEnd, IsUnderWay}
use Rattle.live_link.proofs.Clock.{timed_more, untimed}
use Rattle.live_link.proofs.Sent.{carries_both, carries_none}

-- ---- the steps of a turn

pub tick_is : (s : ℕ) → s ≢ 0 → tick_steps s ≡ Event (Tick s) ∷ []
tick_is zero h = absurd (h refl)
tick_is (suc n) h = refl

pub no_tick : (s : ℕ) → s ≡ 0 → tick_steps s ≡ []
no_tick zero h = refl
no_tick (suc n) h = absurd (omega (arith, h))

-- the seconds of a turn pass
turns_tick : (seconds : List ℕ) (received : List (Option Packet)) (s : ℕ) → length received ≡ length seconds
    → turn_steps (seconds ++ s ∷ []) received ≡ turn_steps seconds received ++ tick_steps s
turns_tick [] [] s h = append-nil (tick_steps s)
turns_tick [] (r ∷ received) s h = absurd (omega (arith, h))
turns_tick (x ∷ seconds) [] s h = absurd (omega (arith, h))
turns_tick (x ∷ seconds) (r ∷ received) s h =
    ap (λ l. tick_steps x ++ heard_steps r ++ l) (turns_tick seconds received s (omega (arith, h)))
    ∙ sym (append_assoc (tick_steps x ++ heard_steps r) (turn_steps seconds received) (tick_steps s))

-- a turn is made
turns_more : (seconds : List ℕ) (received : List (Option Packet)) (s : ℕ) (r : Option Packet)
    → length received ≡ length seconds
    → turn_steps (seconds ++ s ∷ []) (received ++ r ∷ [])
    ≡ turn_steps seconds received ++ tick_steps s ++ heard_steps r
turns_more [] [] s r h = append-nil (tick_steps s ++ heard_steps r)
turns_more [] (q ∷ received) s r h = absurd (omega (arith, h))
turns_more (x ∷ seconds) [] s r h = absurd (omega (arith, h))
turns_more (x ∷ seconds) (q ∷ received) s r h =
    let front = tick_steps x ++ heard_steps q in
    let rest = turn_steps seconds received in
    ap (λ l. front ++ l) (turns_more seconds received s r (omega (arith, h)))
    ∙ sym (append_assoc front (rest ++ tick_steps s) (heard_steps r))
    ∙ ap (λ l. l ++ heard_steps r) (sym (append_assoc front rest (tick_steps s)))

-- ---- a call of `receive`

asked_more : (received : List (Option Packet)) (heard : Option Packet) (sent : List Packet) (failures refusals : ℕ)
    → traffic_and (record { received = received; taken = sent; failures = 0; refusals = 0 })
    (record { received = heard ∷ []; taken = []; failures = failures; refusals = refusals })
    ≡ record { received = received ++ heard ∷ []; taken = sent; failures = failures; refusals = refusals }
asked_more received heard sent failures refusals =
    let s = append-nil sent in
    let f = zero-add failures in
    let r = zero-add refusals in
    cc

-- it gave this
pub asked_once : (first : Device) (before : Option Traffic) (received : List (Option Packet)) (heard : Option Packet)
    (device : Device) (steps : List Step) (sent : List Packet) (between after : Option Traffic)
    → IsServing first before received device steps sent between
    → Carries between after (record { received = heard ∷ []; taken = []; failures = 0; refusals = 0 })
    → IsServing first before (received ++ heard ∷ []) device steps sent after
asked_once first before received heard device steps sent between after h k =
    record {
      shows = h.shows;
      deaf = h.deaf;
      put_out = h.put_out;
      told = carries_both before between after _ _ _ h.told k (asked_more received heard sent 0 0);
      live = h.live;
    }

-- the wire failed
pub receive_failed : (first : Device) (before : Option Traffic) (received : List (Option Packet)) (device : Device)
    (steps : List Step) (sent : List Packet) (between after : Option Traffic)
    → IsServing first before received device steps sent between
    → Carries between after (record { received = None ∷ []; taken = []; failures = 1; refusals = 0 })
    → IsBroken ReceiveFault first before (received ++ None ∷ []) (steps ++ heard_steps None) steps sent after
receive_failed first before received device steps sent between after h k =
    record {
      early = tt;
      refusals = 0;
      few = omega arith;
      told = carries_both before between after _ _ _ h.told k (asked_more received None sent 1 0);
      refused = [];
      given_are = refl;
      refused_count = refl;
      live = h.live;
      put_out = h.put_out;
      past_end = λ f s e. absurd cc;
      deaf = λ e. (h.deaf e).1;
    }

-- no memory was left for the wire
pub receive_refused : (first : Device) (before : Option Traffic) (received : List (Option Packet)) (device : Device)
    (steps : List Step) (sent : List Packet) (between after : Option Traffic)
    → IsServing first before received device steps sent between
    → Carries between after (record { received = None ∷ []; taken = []; failures = 0; refusals = 1 })
    → IsBroken Memory first before (received ++ None ∷ []) (steps ++ heard_steps None) steps sent after
receive_refused first before received device steps sent between after h k =
    record {
      early = tt;
      refusals = 1;
      few = omega arith;
      told = carries_both before between after _ _ _ h.told k (asked_more received None sent 0 1);
      refused = [];
      given_are = refl;
      refused_count = refl;
      live = h.live;
      put_out = λ f s. inl (h.put_out f s);
      past_end = λ f s e. absurd cc;
      deaf = λ e. (h.deaf e).1;
    }

-- ---- readings

pub none_read : (read : Option (List ℕ)) → AreRead read read []
none_read None = tt
none_read (Some readings) = sym (append-nil readings)

read_more : (a b c : Option (List ℕ)) (readings : List ℕ) (now : ℕ) → AreRead a b readings → AreRead b c (now ∷ [])
    → AreRead a c (readings ++ now ∷ [])
read_more a b None readings now h k = tt
read_more a None (Some z) readings now h k = absurd k
read_more None (Some y) (Some z) readings now h k = absurd h
read_more (Some x) (Some y) (Some z) readings now h k =
    k ∙ ap (λ l. l ++ now ∷ []) h ∙ append_assoc x readings (now ∷ [])

-- ---- turns

-- no turn was made
pub starts : (device : Device) (before : Option Traffic) (read : Option (List ℕ)) (steps : List Step)
    (sent : List Packet) → steps ≡ [] → sent ≡ [] → IsUnderWay device before read 0 device None steps sent before read
starts device before read steps sent e s =
    subst (λ (l : List Step). IsUnderWay device before read 0 device None l sent before read) (sym e)
    (subst (λ (l : List Packet). IsUnderWay device before read 0 device None [] l before read) (sym s) (record {
      received = [];
      calls = refl;
      serving = record {
        shows = λ f h. h;
        deaf = λ h. (h, refl);
        put_out = λ f h. refl;
        told = carries_none before;
        live = tt;
      };
      readings = [];
      count = refl;
      read = none_read read;
      seconds = [];
      timed = untimed;
      given = refl;
    }))

push_length : {A : Type 0} (xs : List A) (x : A) (n : ℕ) → length xs ≡ n → length (xs ++ x ∷ []) ≡ n + 1
push_length xs x n h = omega (arith, h, length-append xs (x ∷ []))

-- one turn more
pub turned : (first : Device) (before : Option Traffic) (read_before : Option (List ℕ)) (turns : ℕ)
    (device newer : Device) (counted later : Option ℕ) (steps between more : List Step) (sent noted : List Packet)
    (told_between after : Option Traffic) (read_between read_after : Option (List ℕ)) (now : ℕ)
    (h : IsUnderWay first before read_before turns device counted steps sent told_between read_between)
    → AreRead read_between read_after (now ∷ [])
    → between ≡ steps ++ tick_steps (passed_at counted now)
    → ((heard : Option Packet) × IsServing first before (h.received ++ heard ∷ []) newer more noted after
    × (more ≡ between ++ heard_steps heard))
    → later ≡ Some (unwrap_or counted now + passed_at counted now)
    → IsUnderWay first before read_before (turns + 1) newer later more noted after read_after
turned first before read_before turns device newer counted later steps between more sent noted told_between after
    read_between read_after now h read ticked (heard, serving, e) to =
    record {
      received = h.received ++ heard ∷ [];
      calls = push_length h.received heard turns h.calls;
      serving = serving;
      readings = h.readings ++ now ∷ [];
      count = push_length h.readings now turns h.count;
      read = read_more read_before read_between read_after h.readings now h.read read;
      seconds = h.seconds ++ passed_at counted now ∷ [];
      timed = timed_more h.readings h.seconds counted later now h.timed to;
      given = e ∙ ap (λ l. l ++ heard_steps heard) (ticked
          ∙ ap (λ l. l ++ tick_steps (passed_at counted now)) h.given)
          ∙ sym (turns_more h.seconds h.received (passed_at counted now) heard
          (h.calls ∙ sym (h.timed.passed.count ∙ h.count)));
    }

-- the calls of a turn that was broken off after the wire was asked
asked_counts : (end : LiveEnd) (turns readings calls made : ℕ) → IsEarlyEnd end → readings ≡ made → calls ≡ made
    → made ≤ turns → AreCountsAt end turns readings calls
asked_counts Turns turns readings calls made h r c le = absurd h
asked_counts ReceiveFault turns readings calls made h r c le = (omega (arith, r, le), c ∙ sym r)
asked_counts SendFault turns readings calls made h r c le = (omega (arith, r, le), inl (c ∙ sym r))
asked_counts Memory turns readings calls made h r c le = (omega (arith, r, le), inl (c ∙ sym r))
asked_counts Spent turns readings calls made h r c le = (omega (arith, r, le), inl (c ∙ sym r))

-- and before that
unasked_counts : (end : LiveEnd) (turns readings calls made : ℕ) → IsStepEnd end → readings ≡ made + 1 → calls ≡ made
    → made + 1 ≤ turns → AreCountsAt end turns readings calls
unasked_counts Turns turns readings calls made h r c le = absurd h
unasked_counts ReceiveFault turns readings calls made h r c le = absurd h
unasked_counts SendFault turns readings calls made h r c le =
    (omega (arith, r, le), inr (omega (arith, r, c)))
unasked_counts Memory turns readings calls made h r c le = (omega (arith, r, le), inr (omega (arith, r, c)))
unasked_counts Spent turns readings calls made h r c le = (omega (arith, r, le), inr (omega (arith, r, c)))

-- the session was broken off before the wire was asked
pub off_unasked : (end : LiveEnd) (first : Device) (before : Option Traffic) (read_before : Option (List ℕ))
    (turns most : ℕ) (device : Device) (counted later : Option ℕ) (steps more : List Step) (sent noted : List Packet)
    (between after : Option Traffic) (read_between read_after : Option (List ℕ)) (now : ℕ)
    (h : IsUnderWay first before read_before turns device counted steps sent between read_between)
    → AreRead read_between read_after (now ∷ []) → IsStepEnd end
    → IsBroken end first before h.received (steps ++ tick_steps (passed_at counted now)) more noted after
    → later ≡ Some (unwrap_or counted now + passed_at counted now) → turns + 1 ≤ most
    → IsSession (Shows first) first.spent most end more noted before after read_before read_after
off_unasked end first before read_before turns most device counted later steps more sent noted between after
    read_between read_after now h read at broken to le =
    record {
      received = h.received;
      refusals = broken.refusals;
      few = broken.few;
      told = broken.told;
      readings = h.readings ++ now ∷ [];
      read = read_more read_before read_between read_after h.readings now h.read read;
      refused = broken.refused;
      made = record {
        seconds = h.seconds ++ passed_at counted now ∷ [];
        passed = (timed_more h.readings h.seconds counted later now h.timed to).passed;
        given = turns_tick h.seconds h.received (passed_at counted now)
            (h.calls ∙ sym (h.timed.passed.count ∙ h.count))
            ∙ ap (λ l. l ++ tick_steps (passed_at counted now)) (sym h.given) ∙ broken.given_are;
        refused_count = broken.refused_count;
        counts = unasked_counts end most (length (h.readings ++ now ∷ [])) (length h.received) turns at
            (push_length h.readings now turns h.count) h.calls le;
        live = broken.live;
      };
      put_out = broken.put_out;
      past_end = broken.past_end;
      deaf = broken.deaf;
    }

-- the session was broken off after the wire was asked
pub off_asked : (end : LiveEnd) (first : Device) (before : Option Traffic) (read_before : Option (List ℕ))
    (turns most : ℕ) (device : Device) (counted later : Option ℕ) (steps between more : List Step)
    (sent noted : List Packet) (told_between after : Option Traffic) (read_between read_after : Option (List ℕ))
    (now : ℕ)
    (h : IsUnderWay first before read_before turns device counted steps sent told_between read_between)
    → AreRead read_between read_after (now ∷ [])
    → between ≡ steps ++ tick_steps (passed_at counted now)
    → ((heard : Option Packet) × IsBroken end first before (h.received ++ heard ∷ [])
    (between ++ heard_steps heard) more noted after)
    → later ≡ Some (unwrap_or counted now + passed_at counted now) → turns + 1 ≤ most
    → IsSession (Shows first) first.spent most end more noted before after read_before read_after
off_asked end first before read_before turns most device counted later steps between more sent noted told_between
    after read_between read_after now h read ticked (heard, broken) to le =
    record {
      received = h.received ++ heard ∷ [];
      refusals = broken.refusals;
      few = broken.few;
      told = broken.told;
      readings = h.readings ++ now ∷ [];
      read = read_more read_before read_between read_after h.readings now h.read read;
      refused = broken.refused;
      made = record {
        seconds = h.seconds ++ passed_at counted now ∷ [];
        passed = (timed_more h.readings h.seconds counted later now h.timed to).passed;
        given = turns_more h.seconds h.received (passed_at counted now) heard
            (h.calls ∙ sym (h.timed.passed.count ∙ h.count))
            ∙ ap (λ l. l ++ heard_steps heard) (ap (λ l. l ++ tick_steps (passed_at counted now)) (sym h.given)
            ∙ sym ticked) ∙ broken.given_are;
        refused_count = broken.refused_count;
        counts = asked_counts end most (length (h.readings ++ now ∷ [])) (length (h.received ++ heard ∷ []))
            (turns + 1) broken.early (push_length h.readings now turns h.count)
            (push_length h.received heard turns h.calls) le;
        live = broken.live;
      };
      put_out = broken.put_out;
      past_end = broken.past_end;
      deaf = broken.deaf;
    }

-- all turns were made
pub all_turns : (first : Device) (before : Option Traffic) (read_before : Option (List ℕ)) (made turns : ℕ)
    (device : Device) (counted : Option ℕ) (steps : List Step) (sent : List Packet) (after : Option Traffic)
    (read_after : Option (List ℕ))
    → IsUnderWay first before read_before made device counted steps sent after read_after → made ≡ turns
    → IsSession (Shows first) first.spent turns Turns steps sent before after read_before read_after
all_turns first before read_before made turns device counted steps sent after read_after h e =
    record {
      received = h.received;
      refusals = 0;
      few = omega arith;
      told = h.serving.told;
      readings = h.readings;
      read = h.read;
      refused = [];
      made = record {
        seconds = h.seconds;
        passed = h.timed.passed;
        given = sym h.given ∙ sym (append-nil steps);
        refused_count = refl;
        counts = (h.count ∙ e, h.calls ∙ e);
        live = h.serving.live;
      };
      put_out = h.serving.put_out;
      past_end = λ f s k. absurd cc;
      deaf = λ k. (h.serving.deaf k).1;
    }

-- the same, as the session has it
pub as_session : (end said : LiveEnd) (first : Device) (before : Option Traffic) (read_before : Option (List ℕ))
    (turns : ℕ) (steps kept : List Step) (sent noted : List Packet) (after : Option Traffic)
    (read_after : Option (List ℕ))
    → IsSession (Shows first) first.spent turns end steps sent before after read_before read_after
    → said ≡ end → kept ≡ steps → noted ≡ sent
    → IsSession (Shows first) first.spent turns said kept noted before after read_before read_after
as_session end said first before read_before turns steps kept sent noted after read_after h e s n =
    subst (λ (x : LiveEnd). IsSession (Shows first) first.spent turns x kept noted before after read_before read_after)
    (sym e) (subst (λ (x : List Step). IsSession (Shows first) first.spent turns end x noted before after read_before
    read_after) (sym s) (subst (λ (x : List Packet). IsSession (Shows first) first.spent turns end steps x before after
    read_before read_after) (sym n) h))
