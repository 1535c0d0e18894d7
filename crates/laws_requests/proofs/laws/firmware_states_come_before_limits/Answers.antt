use Rattle.laws_requests.proofs.Timing.{states_decide, states_precede}
use Rattle.laws_requests.proofs.laws.firmware_states_come_before_limits.Goals as goal

pub returns-clause-decide : goal.returns-clause-decide
returns-clause-decide c = states_decide c.refusals_have_reasons.ensures.table

pub returns-clause-precede : goal.returns-clause-precede
returns-clause-precede c = states_precede c.refusals_have_reasons.ensures.table
