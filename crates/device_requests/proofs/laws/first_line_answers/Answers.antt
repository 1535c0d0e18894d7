use Rattle.device_requests.proofs.Answering.{says}
use Rattle.device_requests.proofs.laws.first_line_answers.Goals as goal

pub returns : goal.returns
returns c = says
