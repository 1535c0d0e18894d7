use Rattle.device_requests.proofs.Order.{only_reads}
use Rattle.device_requests.proofs.laws.only_reads_observe.Goals as goal

pub returns : goal.returns
returns c = only_reads
