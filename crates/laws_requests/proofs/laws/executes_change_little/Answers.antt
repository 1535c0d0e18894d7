use Rattle.laws_requests.proofs.Executing.{errors_reset, executes_keep, updates_begin}
use Rattle.laws_requests.proofs.laws.executes_change_little.Goals as goal

pub returns-clause-nothing : goal.returns-clause-nothing
returns-clause-nothing c = executes_keep

pub returns-clause-errors : goal.returns-clause-errors
returns-clause-errors c = errors_reset

pub returns-clause-update : goal.returns-clause-update
returns-clause-update c = updates_begin
