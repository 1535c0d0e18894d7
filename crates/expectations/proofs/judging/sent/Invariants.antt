use Rattle.std.proofs.Common.{◌≡◌, ◌++◌, ◌∷◌, drop}
use Rattle.std.specs.Prelude.{None}
use Rattle.expectations.specs.Inside.{places_reached}
use Rattle.expectations.proofs.judging.sent.Given as goal

-- the places that are found, and those still to come
abbrev pub invariant-loop-arrival : goal.invariant-loop-arrival
invariant-loop-arrival l =
    l.next.items ++ places_reached l.server l.what l.within l.latest l.left (drop l.arrival-index l.arrivals)
    ≡ None ∷ places_reached l.server l.what l.within None l.places l.arrivals
