use Rattle.laws_device.proofs.Senders.{firmware, puts}
use Rattle.laws_device.proofs.sending.changes_send_nothing.Goals as goal

pub returns-clause-put : goal.returns-clause-put
returns-clause-put c = puts

pub returns-clause-firmware : goal.returns-clause-firmware
returns-clause-firmware c = firmware
