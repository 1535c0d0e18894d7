use Rattle.device_requests.proofs.Order.{one_table, reasons}
use Rattle.device_requests.proofs.laws.refusals_have_reasons.Goals as goal

pub returns-clause-table : goal.returns-clause-table
returns-clause-table c = one_table

pub returns-clause-reason : goal.returns-clause-reason
returns-clause-reason c = reasons
