-- What a step adds to the history of a device.
use Rattle.std.proofs.Common.{◌≡◌, ℕ, ◌+◌, List, ◌++◌, sym, ap, ◌∙◌, append_assoc}
use Rattle.std.specs.Prelude.{Some, Result, Ok, Err, OnOk}
use Rattle.std.specs.List.{flat_map}
use Rattle.device_machine.specs.declared.output.Output.{Output}
use Rattle.scenario_image.specs.declared.step.Step.{Step}
use Rattle.scenario_image.specs.Scenario.{Scenario}
use Rattle.fleet_core.specs.Run.{out_at, step_at}
use Rattle.trace_text.specs.Seconds.{second_at}
use Rattle.server_lint.specs.History.{Transmission}
use Rattle.command_lint.specs.History.{history_at, received_at, received_in, sent_by}

added : (s : Scenario) (d place second : ℕ) (step : Step) (outputs : List Output) (old mid new : List Transmission)
    → step_at s d place ≡ Some step → outputs ≡ out_at s d place → second ≡ second_at s d (place + 1)
    → mid ≡ old ++ received_in place second step → new ≡ mid ++ flat_map (sent_by place second) outputs
    → new ≡ old ++ history_at s d place
added s d place second step outputs old mid new is out at first then =
    let came = received_in place second step in
    let went = flat_map (sent_by place second) outputs in
    let arrives : came ≡ received_at place (second_at s d (place + 1)) (step_at s d place) =
    ap (λ o. received_at place second o) (sym is)
    ∙ ap (λ n. received_at place n (step_at s d place)) at in
    let sends : went ≡ flat_map (sent_by place (second_at s d (place + 1))) (out_at s d place) =
    ap (λ l. flat_map (sent_by place second) l) out
    ∙ ap (λ n. flat_map (sent_by place n) (out_at s d place)) at in
    then ∙ ap (λ l. l ++ went) first ∙ append_assoc old came went ∙ ap (λ l. old ++ (l ++ went)) arrives
    ∙ ap (λ l. old ++ (received_at place (second_at s d (place + 1)) (step_at s d place) ++ l)) sends

pub step_added : {T E : Type 0} (r : Result T E) (s : Scenario) (d place second : ℕ) (step : Step)
    (outputs : List Output) (old mid new : List Transmission) → step_at s d place ≡ Some step
    → outputs ≡ out_at s d place → second ≡ second_at s d (place + 1) → mid ≡ old ++ received_in place second step
    → OnOk r (new ≡ mid ++ flat_map (sent_by place second) outputs) → OnOk r (new ≡ old ++ history_at s d place)
step_added (Ok x) s d place second step outputs old mid new is out at first then =
    added s d place second step outputs old mid new is out at first then
step_added (Err e) s d place second step outputs old mid new is out at first then = tt
