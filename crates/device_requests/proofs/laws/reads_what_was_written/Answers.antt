use Rattle.device_requests.proofs.ReadBack.{read_back}
use Rattle.device_requests.proofs.laws.reads_what_was_written.Goals as goal

pub returns : goal.returns
returns c = read_back
