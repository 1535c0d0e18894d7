use Rattle.std.proofs.Common.{◌<◌, length, arith}
use Rattle.expectations.specs.Inside.{start}
use Rattle.expectations.proofs.Places.{unreached_more}
use Rattle.expectations.proofs.judging.start.Goals as goal

pub loop-arrival-preserved : goal.loop-arrival-preserved
loop-arrival-preserved c =
    let within : c.loop-arrival._arrival-index < length c.args.arrivals.now = omega (arith, c.loop-arrival-test.true) in
    rw c.in_ok-push-2.ensures.items
    (unreached_more c.args.arrivals.now c.loop-arrival._arrival-index c.loop-arrival.places.items
    (start c.args.arrivals.now) within c.loop-arrival.invariant)
