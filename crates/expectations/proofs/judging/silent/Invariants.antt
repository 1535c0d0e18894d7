use Rattle.std.proofs.Common.{◌≡◌, ◌++◌, drop}
use Rattle.expectations.specs.Inside.{silent}
use Rattle.expectations.proofs.judging.silent.Given as goal

-- the places that are found, and those still to come
abbrev pub invariant-loop-limit : goal.invariant-loop-limit
invariant-loop-limit l =
    l.next.items ++ silent l.seconds l.left (drop l.limit-index l.limits) ≡ silent l.seconds l.places l.limits
