use Rattle.server_lint.proofs.Found.{found_here}
use Rattle.server_lint.proofs.finding.is_finding.Goals as goal

pub returns-then-is_chosen : goal.returns-then-is_chosen
returns-then-is_chosen c =
    found_here c.args.chosen.now c.args.history.now c.args.end c.args.place c.args.rule c.t-item.result c.breaks.result
    c.split_at.result.0.now c.split_at.result.1.now c.split_at.ensures.front c.split_at.ensures.back
    c.in-len1-up.len_at_least c.t-item.is c.breaks.ensures (c.is_chosen.ensures.0 c.if-is_chosen.true)
