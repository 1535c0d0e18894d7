use Rattle.expectations.proofs.Settled.{settled_if}
use Rattle.expectations.proofs.settling.is_settled.Goals as goal

pub returns-in_ok-open-in-Missed : goal.returns-in_ok-open-in-Missed
returns-in_ok-open-in-Missed c =
    settled_if c.args.lines.now c.args.arrivals.now c.args.end c.in-Missed.place c.in_ok-open-in-Missed.open
    (rw c.in-Missed.is at c.in_ok-judge.ensures) c.in_ok-open-in-Missed.ensures
