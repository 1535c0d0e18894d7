use Rattle.std.proofs.Common.{drop, arith}
use Rattle.expectations.specs.Inside.{silent}
use Rattle.expectations.proofs.Places.{found, silent_none}
use Rattle.expectations.proofs.judging.silent.Goals as goal

pub returns-in_default : goal.returns-in_default
returns-in_default c =
    found c.loop-limit.next.items
    (silent c.args.seconds c.loop-limit.left.now (drop c.loop-limit.limit-index c.args.limits.now))
    (silent c.args.seconds c.args.places.now c.args.limits.now)
    (silent_none c.args.seconds c.loop-limit.left.now (drop c.loop-limit.limit-index c.args.limits.now)
    (omega (arith, c.in_default.len_below))) c.loop-limit.invariant
