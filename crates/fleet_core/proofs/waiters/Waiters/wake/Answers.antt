use Rattle.fleet_core.proofs.Waking.{one_moved, all_moved, one_fewer}
use Rattle.fleet_core.proofs.waiters.Waiters.wake.Goals as goal

pub met-smaller : goal.met-smaller
met-smaller c = one_fewer c.met.self c.take_met.new.self c.in-Some.device c.in-Some.ensures.met

pub met-preserved : goal.met-preserved
met-preserved c =
    one_moved _ c.met.self c.take_met.new.self _ c.met.woken c.add.new.self c.in-Some.device c.met.invariant
    c.in-Some.ensures.met c.in_ok-add.ensures

pub returns-clause-woken : goal.returns-clause-woken
returns-clause-woken c =
    all_moved c.args.self.now c.met.self c.take_met.new.self c.args.woken.now c.met.woken c.args.posts c.met.invariant
    c.in_default.ensures.unchanged c.in_default.ensures.unmet
