use Rattle.shared_trace.specs.Job.{IsGrown}
use Rattle.shared_trace.proofs.job.Job.advance.Given as goal

-- as many steps as turns
abbrev pub invariant-loop-made : goal.invariant-loop-made
invariant-loop-made l = IsGrown l.initial.self l.self l._made
