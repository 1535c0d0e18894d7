use Rattle.std.proofs.Common.{subst}
use Rattle.fleet_core.specs.Board.{Replays}
use Rattle.fleet_core.proofs.Checked.{breaks, replays_on}
use Rattle.fleet_core.proofs.checking.check.Goals as goal

pub returns-then-not-branch : goal.returns-then-not-branch
returns-then-not-branch c =
    breaks c.args.scenario.now c.args.entries.now c.loop-at.at c.loop-at.replay c.take.new.self
    c.index-entries-at.result c.loop-at.invariant c.loop-at-test.true c.index-entries-at.is
    (subst (λ b. Replays c.loop-at.replay c.take.new.self c.index-entries-at.result b) c.if-not-branch.true
    c.in_ok-take.ensures.replays)

pub loop-at-preserved : goal.loop-at-preserved
loop-at-preserved c =
    replays_on c.args.scenario.now c.args.entries.now c.loop-at.at c.loop-at.replay c.take.new.self
    c.index-entries-at.result c.loop-at.invariant c.loop-at-test.true c.index-entries-at.is
    (subst (λ b. Replays c.loop-at.replay c.take.new.self c.index-entries-at.result b) c.if-not-branch.false
    c.in_ok-take.ensures.replays)
