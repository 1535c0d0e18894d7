use Rattle.lwm2m_payloads.proofs.LoneRecord.{counted}
use Rattle.lwm2m_payloads.proofs.nodes.count_of.Goals as goal

pub returns : goal.returns
returns c = counted c.args.nodes.now
