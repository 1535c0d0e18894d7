use Rattle.laws_device.proofs.Confirmed.{unanswered}
use Rattle.laws_device.proofs.confirming.unanswered_are_sent_five_times.Goals as goal

pub returns : goal.returns
returns c = unanswered c.sends_five_times_at_most.ensures
