use Rattle.std.proofs.Common.{sym, ◌∙◌}
use Rattle.server_lint.specs.Inside.{is_late_answer}
use Rattle.server_lint.proofs.Then.{any_here, any_later}
use Rattle.server_lint.proofs.earlier.is_late.Goals as goal

pub returns-then-is_late_answer : goal.returns-then-is_late_answer
returns-then-is_late_answer c =
    sym (sym c.loop-rest.invariant
    ∙ any_here (is_late_answer c.args.t.now) c.loop-rest.rest.now c.first-item.result c.is_late_answer.result
    c.in-len1-up.len_at_least c.first-item.is c.is_late_answer.ensures c.if-is_late_answer.true)

pub loop-rest-preserved : goal.loop-rest-preserved
loop-rest-preserved c =
    any_later (is_late_answer c.args.t.now) c.loop-rest.rest.now c.first-item.result c.is_late_answer.result
    c.in-len1-up.len_at_least c.first-item.is c.is_late_answer.ensures c.if-is_late_answer.false
    ∙ c.loop-rest.invariant
