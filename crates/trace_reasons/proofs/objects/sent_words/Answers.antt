use Rattle.trace_reasons.proofs.Saying.{sent_so_far}
use Rattle.trace_reasons.proofs.objects.sent_words.Goals as goal

pub loop-happening-preserved : goal.loop-happening-preserved
loop-happening-preserved c =
    sent_so_far c.args.happenings.now c.loop-happening.happening-index _ _ _ c.loop-happening-test.true
    c.loop-happening.invariant c.in_ok-put_sent.ensures
