use Rattle.laws_device.proofs.Senders.{only_the_asker}
use Rattle.laws_device.proofs.sending.only_the_asker_is_answered.Goals as goal

pub returns : goal.returns
returns c = only_the_asker
