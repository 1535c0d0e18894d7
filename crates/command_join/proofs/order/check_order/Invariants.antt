-- The slices before this one follow one another.
use Rattle.std.proofs.Common.{◌<◌}
use Rattle.command_join.proofs.Orders.{AreFollowing}
use Rattle.command_join.proofs.order.check_order.Given as goal

abbrev pub invariant-loop-k : goal.invariant-loop-k
invariant-loop-k l = record { some : 0 < l.k; following : AreFollowing l.slices l.k }
