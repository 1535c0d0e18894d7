use Rattle.std.proofs.Common.{arith}
use Rattle.fleet_core.proofs.Taken.{place_below}
use Rattle.fleet_core.proofs.held.make_entry.Goals as goal

pub overflow_add-next : goal.overflow_add-next
overflow_add-next c =
    let h = place_below c.args.scenario.now c.args.device c.args.place c.args.step.now c.rows-known.ensures.valid
    c.requires.stands in
    omega (arith, h)
