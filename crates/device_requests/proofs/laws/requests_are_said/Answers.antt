use Rattle.device_requests.proofs.Reading.{said}
use Rattle.device_requests.proofs.laws.requests_are_said.Goals as goal

pub returns : goal.returns
returns c = said
