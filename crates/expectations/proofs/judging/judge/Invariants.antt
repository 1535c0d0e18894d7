use Rattle.expectations.proofs.Places.{AreLaid}
use Rattle.expectations.proofs.judging.judge.Given as goal

-- the lines so far are laid
abbrev pub invariant-loop-place : goal.invariant-loop-place
invariant-loop-place l = AreLaid l.lines l.arrivals l.end l.place l.places.items
