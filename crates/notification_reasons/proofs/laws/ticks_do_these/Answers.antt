use Rattle.notification_reasons.proofs.Spans.{do_these}
use Rattle.notification_reasons.proofs.laws.ticks_do_these.Goals as goal

pub returns : goal.returns
returns c = do_these
