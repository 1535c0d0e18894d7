-- The steps of a session, as those of a row.
use Rattle.std.proofs.Common.{◌≡◌, inl, inr, ℕ, zero, suc, ◌≤◌, nat_le, ◌&&◌, true, List, [], ◌∷◌, ◌++◌, length}
use Rattle.std.proofs.Common.{Option, Some, slice_get, refl, sym, ap, subst, ◌∙◌, append_assoc, append-nil, arith}
use Rattle.std.proofs.lemmas.Bool.Decides.{nat_tests}
use Rattle.std.specs.List.{flat_map, AllByRecursion}
use Rattle.device_template.specs.Template.{Template}
use Rattle.device_machine.specs.declared.event.Event.TheVariants.{Recv, Put, Firmware, Tick}
use Rattle.device_machine.specs.declared.output.Output.{Output}
use Rattle.device_machine.specs.State.{Machine}
use Rattle.scenario_image.specs.declared.step.Step.{Step}
use Rattle.scenario_image.specs.declared.step.Step.TheVariants.{Event, Post, Need}
use Rattle.scenario_image.specs.Play.{outputs_in, start, step_after, step_outputs, IsRowOf, PutsOut}
use Rattle.scenario_image.specs.Scenario.{is_in_range, one_row, Row}
use Rattle.live_link.specs.declared.session.LiveSession.{LiveSession}
use Rattle.live_link.specs.declared.packet.Packet.{Packet}
use Rattle.live_link.specs.declared.session.LiveEnd.{LiveEnd}
use Rattle.live_link.specs.declared.session.LiveEnd.TheVariants.{Turns, ReceiveFault, SendFault, Memory, Spent}
use Rattle.live_link.specs.Live.{packets_in, sent_by, IsLiveStep, IsSendStopped, IsSentAt, IsSentOf}
use Rattle.live_link.specs.Row.{AreRowOutputs}
use Rattle.live_link.specs.Served.{IsServed}
use Rattle.live_link.specs.Wire.{Traffic}
use Rattle.live_link.proofs.Served.{sent_push}

first_put_out : (f : Machine) (step : Step) (steps : List Step) (outputs : List Output)
    → PutsOut f (step ∷ steps) 0 outputs → outputs ≡ step_outputs f step
first_put_out f step steps outputs h =
    let stands : Some step ≡ Some h.step = h.stands in
    let same : step ≡ h.step = cc in
    h.put_out ∙ ap (step_outputs f) (sym same)

next_put_out : (f : Machine) (step : Step) (steps : List Step) (k : ℕ) (outputs : List Output)
    → PutsOut f (step ∷ steps) (suc k) outputs → PutsOut (step_after f step) steps k outputs
next_put_out f step steps k outputs h = record { step = h.step; stands = h.stands; put_out = h.put_out }

pub played_back : (f : Machine) (steps : List Step) (all : List (Option (List Output))) → length all ≡ length steps
    → ((k : ℕ) (o : Option (List Output)) → slice_get all k ≡ Some o → PutsOut f steps k (outputs_in o))
    → flat_map (λ o. packets_in (outputs_in o)) all ≡ sent_by f steps
played_back f [] [] e h = refl
played_back f [] (o ∷ all) e h = absurd (omega (arith, e))
played_back f (step ∷ steps) [] e h = absurd (omega (arith, e))
played_back f (step ∷ steps) (o ∷ all) e h =
    ap (λ outputs. packets_in outputs ++ flat_map (λ o. packets_in (outputs_in o)) all)
    (first_put_out f step steps (outputs_in o) (h 0 o refl))
    ∙ ap (λ ps. packets_in (step_outputs f step) ++ ps) (played_back (step_after f step) steps all (omega (arith, e))
    (λ k q at. next_put_out f step steps k (outputs_in q) (h (suc k) q at)))

-- ---- what the row of a session outputs

-- what steps output, one after another
abbrev outputs_along : Machine → List Step → List (List Output)
outputs_along f [] = []
outputs_along f (step ∷ steps) = step_outputs f step ∷ outputs_along (step_after f step) steps

along_alone : (f : Machine) (steps : List Step) (all : List (List Output)) → length all ≡ length steps
    → ((k : ℕ) (outputs : List Output) → slice_get all k ≡ Some outputs → PutsOut f steps k outputs)
    → all ≡ outputs_along f steps
along_alone f [] [] e h = refl
along_alone f [] (o ∷ all) e h = absurd (omega (arith, e))
along_alone f (step ∷ steps) [] e h = absurd (omega (arith, e))
along_alone f (step ∷ steps) (o ∷ all) e h =
    ap (λ x. x ∷ all) (first_put_out f step steps o (h 0 o refl))
    ∙ ap (λ xs. step_outputs f step ∷ xs) (along_alone (step_after f step) steps all (omega (arith, e))
    (λ k x at. next_put_out f step steps k x (h (suc k) x at)))

along_sent : (f : Machine) (steps : List Step) → flat_map packets_in (outputs_along f steps) ≡ sent_by f steps
along_sent f [] = refl
along_sent f (step ∷ steps) =
    ap (λ ps. packets_in (step_outputs f step) ++ ps) (along_sent (step_after f step) steps)

along_count : (f : Machine) (steps : List Step) → length (outputs_along f steps) ≡ length steps
along_count f [] = refl
along_count f (step ∷ steps) = omega (arith, along_count (step_after f step) steps)

along_put_out : (f : Machine) (steps : List Step) (k : ℕ) (outputs : List Output)
    → slice_get (outputs_along f steps) k ≡ Some outputs → PutsOut f steps k outputs
along_put_out f [] k outputs h = absurd cc
along_put_out f (step ∷ steps) zero outputs h = record { step = step; stands = refl; put_out = cc }
along_put_out f (step ∷ steps) (suc k) outputs h =
    let rest = along_put_out (step_after f step) steps k outputs h in
    record { step = rest.step; stands = rest.stands; put_out = rest.put_out }

-- the row of a scenario of one class and one row
only_row : (class found : Template) (steps those : List Step) → IsRowOf (one_row class steps) 0 found those
    → (found ≡ class) × (those ≡ steps)
only_row class found steps those h =
    let row : Row = record { class = 0; steps = steps } in
    let other : Row = record { class = h.place; steps = those } in
    let at : Some row ≡ Some other = h.row in
    let same : row ≡ other = cc in
    let stated : slice_get (class ∷ []) 0 ≡ Some found =
    subst (λ (n : ℕ). slice_get (class ∷ []) n ≡ Some found) (sym (ap (λ (r : Row). r.class) same)) h.stated in
    (cc, sym (ap (λ (r : Row). r.steps) same))

row_outputs_alone : (class : Template) (steps : List Step) (all : List (List Output))
    → AreRowOutputs (one_row class steps) 0 all → all ≡ outputs_along (start class) steps
row_outputs_alone class steps all h =
    let found = only_row class h.class steps h.steps h.row in
    along_alone (start h.class) h.steps all h.count h.each ∙ ap (λ c. outputs_along (start c) h.steps) found.0
    ∙ ap (outputs_along (start class)) found.1

pub row_has_outputs : (class : Template) (steps : List Step) → (all : List (List Output))
    × AreRowOutputs (one_row class steps) 0 all
    × ((other : List (List Output)) → AreRowOutputs (one_row class steps) 0 other → other ≡ all)
row_has_outputs class steps = (
  outputs_along (start class) steps,
  record {
    class = class;
    steps = steps;
    row = record { place = 0; row = refl; stated = refl };
    count = along_count (start class) steps;
    each = along_put_out (start class) steps;
  },
  row_outputs_alone class steps,
)

-- what was sent is a beginning of what the steps output
stopped_of : (f : Machine) (steps : List Step) (sent : List Packet) (h : IsSendStopped f steps sent)
    → sent_by f steps ≡ sent ++ h.failed ∷ h.rest
stopped_of f steps sent h =
    ap (sent_by f) h.steps_are ∙ sent_push f h.before h.last ∙ ap (λ l. sent_by f h.before ++ l) h.output
    ∙ sym (append_assoc (sent_by f h.before) h.gone (h.failed ∷ h.rest))
    ∙ ap (λ l. l ++ h.failed ∷ h.rest) (sym h.sent_is)

all_of : (sent all : List Packet) → sent ≡ all → IsSentOf Memory sent all
all_of sent all e = ([], sym e ∙ sym (append-nil sent))

sent_of : (end : LiveEnd) (refusals : ℕ) (f : Machine) (steps : List Step) (sent : List Packet)
    → IsSentAt end refusals f steps sent → IsSentOf end sent (sent_by f steps)
sent_of Turns refusals f steps sent h = h
sent_of ReceiveFault refusals f steps sent h = h
sent_of SendFault refusals f steps sent h = (h.failed, h.rest, stopped_of f steps sent h)
sent_of Memory zero f steps sent h = all_of sent (sent_by f steps) h
sent_of Memory (suc n) f steps sent (inl h) = all_of sent (sent_by f steps) h
sent_of Memory (suc n) f steps sent (inr h) = (h.failed ∷ h.rest, stopped_of f steps sent h)
sent_of Spent refusals f steps sent h = h

pub row_sent : (class : Template) (turns : ℕ) (session : LiveSession) (before after : Option Traffic)
    (read_before read_after : Option (List ℕ)) → IsServed class turns session before after read_before read_after
    → (all : List (List Output)) → AreRowOutputs (one_row class session.steps.items) 0 all
    → IsSentOf session.end session.sent.items (flat_map packets_in all)
row_sent class turns session before after read_before read_after h all row =
    subst (IsSentOf session.end session.sent.items)
    (sym (ap (flat_map packets_in) (row_outputs_alone class session.steps.items all row)
    ∙ along_sent (start class) session.steps.items))
    (sent_of session.end h.refusals (start class) session.steps.items session.sent.items (h.put_out (start class) refl))

-- ---- a session's steps are in the range of a scenario's

tick_in_range : (s : ℕ) → 1 ≤ s → s ≤ 86400 → (nat_le 1 s && nat_le s 86400) ≡ true
tick_in_range s low high = grind (arith, nat_tests)

step_in_range : (step : Step) → IsLiveStep step → is_in_range step ≡ true
step_in_range (Event (Recv server bytes)) h = refl
step_in_range (Event (Put path value)) h = absurd h
step_in_range (Event (Firmware code)) h = absurd h
step_in_range (Event (Tick seconds)) h = tick_in_range seconds h.0 h.1
step_in_range (Post group) h = absurd h
step_in_range (Need group count) h = absurd h

pub all_in_range : (steps : List Step) → AllByRecursion IsLiveStep steps
    → AllByRecursion (λ step. is_in_range step ≡ true) steps
all_in_range [] h = tt
all_in_range (step ∷ steps) h = (step_in_range step h.0, all_in_range steps h.1)
