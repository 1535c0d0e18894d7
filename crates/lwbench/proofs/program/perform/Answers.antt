use Rattle.lwbench.proofs.Ended.{asked_form}
use Rattle.lwbench.proofs.program.perform.Goals as goal

pub returns-in-Err-clause-refused : goal.returns-in-Err-clause-refused
returns-in-Err-clause-refused g c = c.in-Err.ensures _ c.in_ok-asked.ensures

pub returns-in-Err-clause-form : goal.returns-in-Err-clause-form
returns-in-Err-clause-form g c =
    asked_form _ c.in_ok-asked.asked _ _ c.in_ok-asked.ensures c.wants_json-json.ensures
