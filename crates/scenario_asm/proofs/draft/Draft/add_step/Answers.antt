use Rattle.std.proofs.Common.{◌≡◌, Err, subst, sym, ◌∙◌}
use Rattle.scenario_asm.specs.Effect.{step_added}
use Rattle.scenario_asm.proofs.Refusals.{scenario_refused}
use Rattle.scenario_asm.proofs.draft.Draft.add_step.Goals as goal

pub returns-clause-refused : goal.returns-clause-refused
returns-clause-refused c =
    λ k e. c.of_scenario.ensures ∙ scenario_refused _ _ c.add_step.result k c.add_step.ensures.refuses
    (subst (λ d. step_added c.args.step d ≡ Err k) (sym c.self.view_is) e)
