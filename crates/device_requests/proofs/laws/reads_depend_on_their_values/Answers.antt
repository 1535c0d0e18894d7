use Rattle.device_requests.proofs.Depending.{same_answer}
use Rattle.device_requests.proofs.laws.reads_depend_on_their_values.Goals as goal

pub returns : goal.returns
returns c = same_answer
