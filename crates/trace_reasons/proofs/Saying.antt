-- What the object of an entry says, by what its device does beside the entries of a run.
use Rattle.std.proofs.Common.{◌≡◌, ℕ, ◌+◌, ◌<◌, true, false, cond, not, List, [], ◌∷◌, ◌++◌, length, map, filter}
use Rattle.std.proofs.Common.{take, get_or, Some, sym, ap, add-one, ◌∙◌}
use Rattle.std.proofs.Math.Seq.{take-suc}
use Rattle.std.proofs.lemmas.List.{append-nil, map-append}
use Rattle.std.proofs.lemmas.List.Elements.{filter-append}
use Rattle.device_machine.specs.State.{Device, Machine, Shows}
use Rattle.notification_reasons.specs.Reasons.{sends}
use Rattle.notification_reasons.specs.Text.{happening_text}
use Rattle.notification_reasons.specs.declared.reasons.Happening.{Happening}
use Rattle.scenario_image.specs.declared.step.Step.{Step}
use Rattle.scenario_image.specs.Play.{state_at}
use Rattle.scenario_image.specs.Scenario.{IsValid, Scenario}
use Rattle.trace_file.specs.declared.entry.Entry.{Entry}
use Rattle.fleet_core.specs.Board.{ShowsAfter}
use Rattle.fleet_core.specs.Run.{step_at}
use Rattle.fleet_core.proofs.Valid.{IsStep, step_is}
use Rattle.trace_json.specs.declared.reasons.SilentEnd.{SilentEnd}
use Rattle.trace_json.specs.Reasons.{SaidEnd, said_end}
use Rattle.trace_reasons.specs.Objects.{IsEntryLine, IsStepLine}
use Rattle.trace_reasons.specs.Objects.{end_said, ends_said, sent_texts}

-- ---- happenings, one after another

one_more : (hs : List Happening) (i : ℕ) (d : Happening) → i < length hs
    → take (i + 1) hs ≡ take i hs ++ get_or hs i d ∷ []
one_more hs i d within = ap (λ n. take n hs) (add-one i) ∙ take-suc hs i d within

-- a datagram is sent, and its words are added
pub sent_more : {T : Type 0} (view : T → List ℕ) (old new : List T) (t : T) (h : Happening) → new ≡ old ++ t ∷ []
    → view t ≡ happening_text h → sends h.reason ≡ true → map view new ≡ map view old ++ sent_texts (h ∷ [])
sent_more view old new t h more said is =
    ap (map view) more ∙ map-append view old (t ∷ []) ∙ ap (λ x. map view old ++ x ∷ []) said
    ∙ ap (λ b. map view old ++ map happening_text (cond b (h ∷ []) [])) (sym is)

-- none is
pub none_sent : {T : Type 0} (view : T → List ℕ) (old : List T) (h : Happening) → sends h.reason ≡ false
    → map view old ≡ map view old ++ sent_texts (h ∷ [])
none_sent view old h not_so =
    sym (ap (λ b. map view old ++ map happening_text (cond b (h ∷ []) [])) not_so ∙ append-nil (map view old))

-- those of one happening more
sent_next : (hs : List Happening) (i : ℕ) (d : Happening) → i < length hs
    → sent_texts (take (i + 1) hs) ≡ sent_texts (take i hs) ++ sent_texts (get_or hs i d ∷ [])
sent_next hs i d within =
    let h = get_or hs i d in
    ap sent_texts (one_more hs i d within)
    ∙ ap (map happening_text) (filter-append (λ x. sends x.reason) (take i hs) (h ∷ []))
    ∙ map-append happening_text (filter (λ x. sends x.reason) (take i hs)) (filter (λ x. sends x.reason) (h ∷ []))

pub sent_so_far : (hs : List Happening) (i : ℕ) (d : Happening) (old new : List (List ℕ)) → i < length hs
    → old ≡ sent_texts (take i hs) → new ≡ old ++ sent_texts (get_or hs i d ∷ []) → new ≡ sent_texts (take (i + 1) hs)
sent_so_far hs i d old new within before added =
    added ∙ ap (λ x. x ++ sent_texts (get_or hs i d ∷ [])) before ∙ sym (sent_next hs i d within)

-- an observation ends without one, and is added
pub ended_more : (old new : List SilentEnd) (t : SilentEnd) (h : Happening) → new ≡ old ++ t ∷ []
    → said_end t ≡ end_said h → sends h.reason ≡ false → map said_end new ≡ map said_end old ++ ends_said (h ∷ [])
ended_more old new t h more said not_so =
    ap (map said_end) more ∙ map-append said_end old (t ∷ []) ∙ ap (λ x. map said_end old ++ x ∷ []) said
    ∙ ap (λ b. map said_end old ++ map end_said (cond (not b) (h ∷ []) [])) (sym not_so)

pub none_ended : (old : List SilentEnd) (h : Happening) → sends h.reason ≡ true
    → map said_end old ≡ map said_end old ++ ends_said (h ∷ [])
none_ended old h is =
    sym (ap (λ b. map said_end old ++ map end_said (cond (not b) (h ∷ []) [])) is ∙ append-nil (map said_end old))

ended_next : (hs : List Happening) (i : ℕ) (d : Happening) → i < length hs
    → ends_said (take (i + 1) hs) ≡ ends_said (take i hs) ++ ends_said (get_or hs i d ∷ [])
ended_next hs i d within =
    let h = get_or hs i d in
    ap ends_said (one_more hs i d within)
    ∙ ap (map end_said) (filter-append (λ x. not (sends x.reason)) (take i hs) (h ∷ []))
    ∙ map-append end_said (filter (λ x. not (sends x.reason)) (take i hs))
    (filter (λ x. not (sends x.reason)) (h ∷ []))

pub ended_so_far : (hs : List Happening) (i : ℕ) (d : Happening) (old new : List SaidEnd) → i < length hs
    → old ≡ ends_said (take i hs) → new ≡ old ++ ends_said (get_or hs i d ∷ []) → new ≡ ends_said (take (i + 1) hs)
ended_so_far hs i d old new within before added =
    added ∙ ap (λ x. x ++ ends_said (get_or hs i d ∷ [])) before ∙ sym (ended_next hs i d within)

-- ---- an entry

-- the line of an entry whose step a device is to make that shows the state right before it
pub entry_line_is : (s : Scenario) (number : ℕ) (e : Entry) (step : Step) (x : Device) (text : List ℕ) → IsValid s
    → step_at s e.device e.step ≡ Some step → ShowsAfter s e.device e.step x
    → ((f : Machine) → Shows x f → IsStepLine s number e f step text) → IsEntryLine s number e text
entry_line_is s number e step x text valid at shows line =
    let is : IsStep s e.device e.step step = step_is s e.device e.step step valid at in
    let here : IsStepLine s number e (state_at is.class is.steps e.step) step text =
    line (state_at is.class is.steps e.step) (shows is.class is.steps is.row) in (
      here.0,
      record {
        class = is.class;
        steps = is.steps;
        row = is.row;
        step = step;
        stands = is.stands;
        said_is = here.1;
      },
      here.2,
    )
