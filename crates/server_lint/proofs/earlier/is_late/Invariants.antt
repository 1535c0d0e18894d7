use Rattle.std.proofs.Common.{◌≡◌, length}
use Rattle.server_lint.specs.Inside.{any_then, is_late_answer}
use Rattle.server_lint.proofs.earlier.is_late.Given as goal

-- what is still to come has the same
abbrev pub invariant-loop-rest : goal.invariant-loop-rest
invariant-loop-rest l = any_then (is_late_answer l.t) l.rest ≡ any_then (is_late_answer l.t) l.before

abbrev pub decreases-loop-rest : goal.decreases-loop-rest
decreases-loop-rest l = length l.rest
