use Rattle.std.proofs.Common.{◌∷◌, drop, arith}
use Rattle.std.specs.Prelude.{None}
use Rattle.expectations.specs.Inside.{places_reached}
use Rattle.expectations.proofs.Places.{found, reached_none}
use Rattle.expectations.proofs.judging.sent.Goals as goal

pub returns-in_default : goal.returns-in_default
returns-in_default c =
    found c.loop-arrival.next.items
    (places_reached c.args.server c.args.what.now c.args.within c.loop-arrival.latest c.loop-arrival.left.now
    (drop c.loop-arrival.arrival-index c.args.arrivals.now))
    (None ∷ places_reached c.args.server c.args.what.now c.args.within None c.args.places.now c.args.arrivals.now)
    (reached_none c.args.server c.args.what.now c.args.within c.loop-arrival.latest c.loop-arrival.left.now
    (drop c.loop-arrival.arrival-index c.args.arrivals.now) (omega (arith, c.in_default.len_below)))
    c.loop-arrival.invariant
