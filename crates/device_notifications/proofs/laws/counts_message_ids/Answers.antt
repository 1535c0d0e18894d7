use Rattle.device_notifications.proofs.MessageIds.{counts_message_ids}
use Rattle.device_notifications.proofs.laws.counts_message_ids.Goals as goal

pub returns : goal.returns
returns c = counts_message_ids
