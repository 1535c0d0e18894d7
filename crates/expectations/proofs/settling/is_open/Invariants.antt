use Rattle.expectations.proofs.Settled.{AreClosed}
use Rattle.expectations.proofs.settling.is_open.Given as goal

-- the lines so far are not open
abbrev pub invariant-loop-line : goal.invariant-loop-line
invariant-loop-line l = AreClosed l.lines l.arrivals l.end l.line-index l.places.items
