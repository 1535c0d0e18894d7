use Rattle.laws_device.proofs.Senders.{strangers}
use Rattle.laws_device.proofs.sending.strangers_are_ignored.Goals as goal

pub returns : goal.returns
returns c = strangers
