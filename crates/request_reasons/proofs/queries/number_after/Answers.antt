use Rattle.std.proofs.Common.{sym, ◌∙◌}
use Rattle.notifier.proofs.AttributeLaws.{after_written, nothing_left}
use Rattle.request_reasons.proofs.queries.number_after.Goals as goal

pub returns : goal.returns
returns c =
    nothing_left c.loop-change.number c.args.changes.now c.args.name c.loop-change.change-index c.loop-change-test.false
    ∙ c.loop-change.invariant
    ∙ sym (after_written c.args.attributes.now c.args.server c.args.path c.args.changes.now c.args.name)
