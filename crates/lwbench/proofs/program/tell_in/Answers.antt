use Rattle.lwbench.proofs.program.tell_in.Goals as goal

pub returns-then-json-clause-status : goal.returns-then-json-clause-status
returns-then-json-clause-status g c = c.tell_in_json.ensures.status

pub returns-then-json-clause-told : goal.returns-then-json-clause-told
returns-then-json-clause-told g c = rw c.if-json.true c.tell_in_json.ensures.told

pub returns-else-json-clause-status : goal.returns-else-json-clause-status
returns-else-json-clause-status g c = c.tell.ensures.status

pub returns-else-json-clause-told : goal.returns-else-json-clause-told
returns-else-json-clause-told g c = rw c.if-json.false c.tell.ensures.told

pub returns-then-json-clause-only : goal.returns-then-json-clause-only
returns-then-json-clause-only g c = c.tell_in_json.ensures.only

pub returns-else-json-clause-only : goal.returns-else-json-clause-only
returns-else-json-clause-only g c = c.tell.ensures.only
