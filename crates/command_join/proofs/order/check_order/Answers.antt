use Rattle.std.proofs.Common.{refl}
use Rattle.command_join.proofs.Orders.{misfit_at}
use Rattle.command_join.proofs.order.check_order.Goals as goal

pub returns-in-Some-clause-refused : goal.returns-in-Some-clause-refused
returns-in-Some-clause-refused c =
    misfit_at c.args.slices.now c.loop-k.k _ _ _ _ _ c.requires.said c.requires.upward c.requires.sorted
    c.loop-k.invariant.following c.loop-k.invariant.some c.loop-k-test.true refl refl c.in-Some.ensures.wrong
    c.blamed.ensures.about c.blamed.ensures.fault
