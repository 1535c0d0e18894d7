use Rattle.laws_requests.proofs.Deciding.{good_is_done, limits_come_last}
use Rattle.laws_requests.proofs.laws.good_requests_are_done.Goals as goal

pub returns-clause-done : goal.returns-clause-done
returns-clause-done c = good_is_done c.refusals_have_reasons.ensures.table

pub returns-clause-limits : goal.returns-clause-limits
returns-clause-limits c = limits_come_last c.refusals_have_reasons.ensures.table
