use Rattle.std.proofs.Common.{arith}
use Rattle.lwm2m_values.proofs.OneRecord.{head_made}
use Rattle.lwm2m_values.proofs.record.head_at.Goals as goal

pub returns-clause-found : goal.returns-clause-found
returns-clause-found c =
    head_made _ _ _ _ _ _ _ _ _ _ _ _ c.in_ok-first.ensures.cases (omega arith) c.in_ok-id.ensures.cases
    (omega arith) c.in_ok-size.ensures.cases c.type_of.ensures c.unsigned_of.ensures.value c.size_of.ensures
