use Rattle.std.proofs.Common.{sym, ◌∙◌}
use Rattle.request_reasons.proofs.Recognized.{first_at}
use Rattle.request_reasons.proofs.options.unrecognized.Goals as goal

pub returns-then-has_unrecognized_critical : goal.returns-then-has_unrecognized_critical
returns-then-has_unrecognized_critical c =
    first_at c.args.options.now c.loop-i.i c.index-options-i.result c.fault_of.result c.loop-i-test.true
    c.index-options-i.is c.loop-i.invariant
    (sym c.has_unrecognized_critical.ensures ∙ c.if-has_unrecognized_critical.true) c.fault_of.ensures
