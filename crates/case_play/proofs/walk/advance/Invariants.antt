-- So many steps were made after the first ones.
use Rattle.case_play.proofs.Walking.{HasMade}
use Rattle.case_play.proofs.walk.advance.Given as goal

abbrev pub invariant-loop-made : goal.invariant-loop-made
invariant-loop-made l = HasMade l.scenario l.device l.from l._made l.place l.last l.machine
