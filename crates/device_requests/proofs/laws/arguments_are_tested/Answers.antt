use Rattle.lwm2m_payloads.proofs.Reading.{tested}
use Rattle.device_requests.proofs.laws.arguments_are_tested.Goals as goal

pub returns : goal.returns
returns c = tested
