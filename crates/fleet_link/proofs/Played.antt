-- The scenario of a session, played back.
use Rattle.std.proofs.Common.{◌≡◌, ℕ, zero, suc, ◌+◌, ◌<◌, ◌≤◌, Bool, true, false, ◌⊎◌, inl, inr, List, []}
use Rattle.std.proofs.Common.{◌∷◌, ◌++◌, length, take, filter, Option, None, Some, slice_get, refl, sym, ap, subst}
use Rattle.std.proofs.Common.{◌∙◌, append-nil, get_or, arith}
use Rattle.std.specs.List.{flat_map, AllByRecursion}
use Rattle.std.proofs.lemmas.Bool.{cases_lt}
use Rattle.std.proofs.lemmas.Grind.{flat_map-append, take_at_read}
use Rattle.std.proofs.lemmas.List.{take_all}
use Rattle.std.proofs.lemmas.List.Elements.{filter-append}
use Rattle.lemmas.proofs.Lists.{each_at, item_at, take_none, take_one_more}
use Rattle.device_machine.specs.declared.event.Event.TheVariants.{Recv, Put, Firmware, Tick}
use Rattle.device_machine.specs.declared.output.Output.{Output}
use Rattle.device_machine.specs.State.{Machine}
use Rattle.device_template.specs.Template.{Template}
use Rattle.fleet_core.specs.Next.{may_pass, next_of}
use Rattle.fleet_core.specs.Run.{is_enabled, made_by, out_at, outputs_by, posts_of, step_at}
use Rattle.fleet_core.specs.Run.{steps_in, IsComplete}
use Rattle.fleet_core.proofs.Ends.{made_most}
use Rattle.fleet_core.proofs.Posts.{ended_blocked}
use Rattle.live_link.proofs.Served.{sent_push}
use Rattle.live_link.specs.declared.packet.Packet.{Packet}
use Rattle.live_link.specs.Live.{packets_in, sent_by, IsLiveStep}
use Rattle.scenario_image.specs.declared.step.Step.{Step}
use Rattle.scenario_image.specs.declared.step.Step.TheVariants.{Event, Post, Need}
use Rattle.scenario_image.specs.Play.{start, state_at, step_outputs, IsRowOf}
use Rattle.scenario_image.specs.Scenario.{Scenario}
use Rattle.trace_file.specs.declared.entry.Entry.{Entry}
use Rattle.fleet_core.proofs.Agreeing.{outputs_are, out_of_row, outs}
use Rattle.fleet_link.specs.declared.slot.Slot.{Slot}
use Rattle.fleet_link.specs.Saved.{IsPlayedBack, IsSaved}
use Rattle.fleet_link.specs.Playing.{changes_by, is_own, IsFleetStep}
use Rattle.fleet_link.specs.Serving.{IsFleet}
use Rattle.fleet_link.specs.Traffic.{Carries, ReceivedPacket, Traffic}

-- ---- what the entries of a device output

-- the datagrams among what the first steps output are what they send
outs_sent : (s : Scenario) (d : ℕ) (class : Template) (steps : List Step) → IsRowOf s d class steps → (k : ℕ)
    → k ≤ length steps → flat_map packets_in (outs s d k) ≡ sent_by (start class) (take k steps)
outs_sent s d class steps row zero le = ap (sent_by (start class)) (sym (take_none steps))
outs_sent s d class steps row (suc k) le =
    let found = item_at steps k (omega (arith, le)) in
    let more : k + 1 ≡ suc k = omega arith in
    let taken : take (suc k) steps ≡ take k steps ++ found.0 ∷ [] =
    ap (λ n. take n steps) (sym more) ∙ take_one_more steps k found.0 found.1 in
    let out : out_at s d k ≡ step_outputs (state_at class steps k) found.0 =
    out_of_row s d class steps row k ∙ ap (λ o. outputs_at (state_at class steps k) o) found.1 in
    flat_map-append packets_in (outs s d k) (out_at s d k ∷ [])
    ∙ ap (λ ps. ps ++ (packets_in (out_at s d k) ++ [])) (outs_sent s d class steps row k (omega (arith, le)))
    ∙ ap (λ ps. sent_by (start class) (take k steps) ++ ps) (append-nil (packets_in (out_at s d k)) ∙ ap packets_in out)
    ∙ sym (sent_push (start class) (take k steps) found.0) ∙ ap (sent_by (start class)) (sym taken)
  where
    outputs_at : Machine → Option Step → List Output
    outputs_at f None = []
    outputs_at f (Some step) = step_outputs f step

-- ---- a row of events comes to its end

free : (posts : ℕ → ℕ) (step : Step) → IsFleetStep step → may_pass posts (next_of (Some step)) ≡ true
free posts (Event event) live = refl
free posts (Post group) live = absurd live
free posts (Need group count) live = absurd live

ends : (s : Scenario) (d : ℕ) (class : Template) (steps : List Step) (es : List Entry) → IsRowOf s d class steps
    → AllByRecursion IsFleetStep steps → IsComplete s es → made_by d es ≡ length steps
ends s d class steps es row live complete = by_order (cases_lt (made_by d es) (length steps))
  where
    most : made_by d es ≤ length steps
    most = subst (λ o. made_by d es ≤ length (steps_in o)) row.row (made_most s es d complete.run)

    early : made_by d es < length steps → ⊥
    early l =
        let found = item_at steps (made_by d es) l in
        let at : step_at s d (made_by d es) ≡ Some found.0 =
        ap (λ o. slice_get (steps_in o) (made_by d es)) row.row ∙ found.1 in
        let goes : is_enabled s es d ≡ true =
        ap (λ o. may_pass (λ g. posts_of s g es) (next_of o)) at
        ∙ free (λ g. posts_of s g es) found.0 (each_at IsFleetStep steps (made_by d es) found.0 live found.1) in
        let stays : is_enabled s es d ≡ false = ended_blocked s es complete d in
        let e : true ≡ false = sym goes ∙ stays in
        cc

    by_order : (made_by d es < length steps) ⊎ (length steps ≤ made_by d es) → made_by d es ≡ length steps
    by_order (inl l) = absurd (early l)
    by_order (inr l) = omega (arith, l, most)

row_sends : (s : Scenario) (d : ℕ) (class : Template) (steps : List Step) (es : List Entry) → IsRowOf s d class steps
    → AllByRecursion IsFleetStep steps → IsComplete s es
    → flat_map packets_in (outputs_by d es) ≡ sent_by (start class) steps
row_sends s d class steps es row live complete =
    let made = ends s d class steps es row live complete in
    ap (flat_map packets_in) (outputs_are s d es complete.run ∙ ap (outs s d) made)
    ∙ outs_sent s d class steps row (length steps) (omega arith)
    ∙ ap (sent_by (start class)) (take_all (length steps) steps (omega arith))

-- ---- a session

sent_then : (before after : Option Traffic) (handed : List ReceivedPacket) (sent all : List Packet) (failures : ℕ)
    (es : List Entry) (e : ℕ) → Carries before after (record { handed = handed; sent = sent; failures = failures })
    → flat_map packets_in (outputs_by e es) ≡ sent → IsPlayedBack es e before after
sent_then before None handed sent all failures es e h same = tt
sent_then None (Some after) handed sent all failures es e h same = absurd h
sent_then (Some before) (Some after) handed sent all failures es e h same =
    ap (λ (t : Traffic). t.sent) h ∙ ap (λ ps. before.sent ++ ps) (sym same)

pub plays_back : (s : Scenario) (played : Bool) (before after : ℕ → Option Traffic) (slots : List Slot) (now : ℕ)
    (broken : Bool)
    (saved : Scenario) → IsFleet s played before slots now broken after → IsSaved s slots saved → (es : List Entry)
    → IsComplete saved es → (e : ℕ) (slot : Slot) → slice_get slots e ≡ Some slot → slot.recording.complete ≡ true
    → IsPlayedBack es e (before e) (after e)
plays_back s played before after slots now broken saved h is es complete e slot got whole =
    let r = h.each e slot got in
    let serving = r.served.serving in
    let items : serving.steps ≡ slot.recording.steps.items =
    serving.recorded.begins ∙ ap (λ rest. slot.recording.steps.items ++ rest) (serving.recorded.whole whole)
    ∙ append-nil slot.recording.steps.items in
    let row : IsRowOf saved e r.class slot.recording.steps.items = record {
      place = r.row.place;
      row = is.each e (record { class = r.row.place; steps = r.steps }) slot r.row.row got;
      stated = ap (λ c. slice_get c r.row.place) is.classes ∙ r.row.stated;
    } in
    let live : AllByRecursion IsFleetStep slot.recording.steps.items =
    subst (AllByRecursion IsFleetStep) items serving.each in
    sent_then (before e) (after e) _ (sent_by (start r.class) serving.steps) [] serving.failures es e serving.told
    (row_sends saved e r.class slot.recording.steps.items es row live complete
    ∙ ap (sent_by (start r.class)) (sym items))

-- ---- the steps that are played

-- those so far, and one more
pub own_more : (steps own more : List Step) (i : ℕ) (x : Step) → own ≡ filter is_own (take i steps)
    → more ≡ own ++ filter is_own (x ∷ []) → i < length steps → x ≡ get_or steps i x
    → more ≡ filter is_own (take (i + 1) steps)
own_more steps own more i x so_far is l e =
    let taken : take (i + 1) steps ≡ take i steps ++ x ∷ [] =
    (take_at_read steps i x l).1 ∙ ap (λ y. take i steps ++ y ∷ []) (sym e) in
    is ∙ ap (λ xs. xs ++ filter is_own (x ∷ [])) so_far ∙ sym (filter-append is_own (take i steps) (x ∷ []))
    ∙ ap (filter is_own) (sym taken)

-- ---- steps without a change

pub live_steps : (second : ℕ) (steps : List Step) → AllByRecursion IsFleetStep steps → changes_by second steps ≡ []
    → AllByRecursion IsLiveStep steps
live_steps second [] each none = tt
live_steps second (Event (Recv server bytes) ∷ steps) each none = (tt, live_steps second steps each.1 none)
live_steps second (Event (Put path value) ∷ steps) each none = absurd cc
live_steps second (Event (Firmware code) ∷ steps) each none = absurd cc
live_steps second (Event (Tick seconds) ∷ steps) each none =
    (each.0, live_steps (second + seconds) steps each.1 none)
live_steps second (Post group ∷ steps) each none = absurd each.0
live_steps second (Need group count ∷ steps) each none = absurd each.0

pub own_changes : (second : ℕ) (steps : List Step) → changes_by second (filter is_own steps) ≡ changes_by second steps
own_changes second [] = refl
own_changes second (Event (Recv server bytes) ∷ steps) = own_changes second steps
own_changes second (Event (Put path value) ∷ steps) =
    ap (λ cs. record { second = second; event = Put path value } ∷ cs) (own_changes second steps)
own_changes second (Event (Firmware code) ∷ steps) =
    ap (λ cs. record { second = second; event = Firmware code } ∷ cs) (own_changes second steps)
own_changes second (Event (Tick seconds) ∷ steps) = own_changes (second + seconds) steps
own_changes second (Post group ∷ steps) = own_changes second steps
own_changes second (Need group count ∷ steps) = own_changes second steps
