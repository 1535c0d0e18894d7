use Rattle.std.proofs.Common.{◌≡◌, ◌++◌, drop}
use Rattle.expectations.specs.Inside.{places_unreached, start}
use Rattle.expectations.proofs.judging.start.Given as goal

-- the places that are there, and those still to come
abbrev pub invariant-loop-arrival : goal.invariant-loop-arrival
invariant-loop-arrival l = l.places.items ++ places_unreached (drop l._arrival-index l.arrivals) ≡ start l.arrivals
