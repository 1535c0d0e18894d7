use Rattle.std.proofs.Common.{ap, ◌∙◌}
use Rattle.scenario_image.specs.Scenario.{Scenario}
use Rattle.command_join.proofs.Adding.{step_more}
use Rattle.command_join.proofs.rows.add_row.Goals as goal

pub loop-step-preserved : goal.loop-step-preserved
loop-step-preserved c =
    let at = c.loop-step in
    record {
      classes = ap (λ (s : Scenario). s.classes) c.in_ok-add_step.ensures.added ∙ at.invariant.classes;
      rows = step_more c.args.whole.now.rows c.args.class c.args.steps.now at.step-index c.step-item.result
          at.whole c.add_step.new.self _ at.invariant.rows c.in_ok-add_step.ensures.added
          (c.in_ok-copy_step.ensures ∙ c.step-item.is) c.loop-step-test.true;
    }
