use Rattle.lwm2m_payloads.proofs.LoneRecord.{not_sole}
use Rattle.lwm2m_payloads.proofs.nodes.sole.Goals as goal

pub returns-else-nodes-eq1 : goal.returns-else-nodes-eq1
returns-else-nodes-eq1 c = not_sole c.args.nodes.now c.if-nodes-eq1.false
