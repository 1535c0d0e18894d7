use Rattle.std.proofs.Common.{◌≡◌, IfOk, sym, subst}
use Rattle.scenario_image.specs.Play.{step_outputs}
use Rattle.fleet_core.proofs.performing.perform.Goals as goal

pub returns-in-Event-clause-outputs : goal.returns-in-Event-clause-outputs
returns-in-Event-clause-outputs c = λ f shows.
    subst (λ step. IfOk c.perform_event.result (λ o. o ≡ step_outputs f step)) (sym c.in-Event.is)
    (c.perform_event.ensures.outputs f shows)
