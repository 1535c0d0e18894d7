use Rattle.trace_reasons.proofs.Saying.{ended_so_far}
use Rattle.trace_reasons.proofs.objects.silent_ends.Goals as goal

pub loop-happening-preserved : goal.loop-happening-preserved
loop-happening-preserved c =
    ended_so_far c.args.happenings.now c.loop-happening.happening-index _ _ _ c.loop-happening-test.true
    c.loop-happening.invariant c.in_ok-put_end.ensures
