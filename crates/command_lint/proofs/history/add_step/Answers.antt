use Rattle.std.proofs.Common.{◌+◌, sym, ap, ◌∙◌}
use Rattle.trace_text.specs.Seconds.{second_at}
use Rattle.command_lint.proofs.Steps.{step_added}
use Rattle.command_lint.proofs.history.add_step.Goals as goal

pub returns-clause-added : goal.returns-clause-added
returns-clause-added c =
    step_added c.add_outputs.result c.args.scenario.now c.args.device c.args.place c.second_at-second.result
    c.in-Some.step.now c.as_slice.result.now c.args.items.now.items c.add_received.new.items.items
    c.add_outputs.new.items.items (sym c.in-Some.ensures) (c.as_slice.ensures ∙ c.in_ok-outputs.ensures.outputs)
    (c.second_at-second.ensures.second ∙ ap (λ s. second_at s c.args.device (c.args.place + 1)) c.requires.clocks)
    c.in_ok-add_received.ensures c.add_outputs.ensures
