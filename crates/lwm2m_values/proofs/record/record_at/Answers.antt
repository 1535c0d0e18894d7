use Rattle.lwm2m_values.proofs.OneRecord.{IsCut-from_size, IsCut-from_head}
use Rattle.lwm2m_values.proofs.record.record_at.Goals as goal

pub returns-in_err-head-clause-cut : goal.returns-in_err-head-clause-cut
returns-in_err-head-clause-cut c = rw c.from_residual.ensures (IsCut-from_head _ c.in_err-head.ensures.cut)

pub returns-in_err-content-clause-cut : goal.returns-in_err-content-clause-cut
returns-in_err-content-clause-cut c =
    let found = c.in_ok-head.ensures.found in
    rw c.from_residual-in_err-content.ensures
    (IsCut-from_size _ found.0 _ _ _ _ found.1 found.2 c.in_err-content.ensures.cases)
