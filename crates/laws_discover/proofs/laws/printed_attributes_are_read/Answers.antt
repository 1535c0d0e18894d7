use Rattle.laws_discover.proofs.Queries.{only_these, printed_again, printed_is_read}
use Rattle.laws_discover.proofs.laws.printed_attributes_are_read.Goals as goal

pub returns-clause-read : goal.returns-clause-read
returns-clause-read c = printed_is_read

pub returns-clause-only : goal.returns-clause-only
returns-clause-only c = only_these

pub returns-clause-again : goal.returns-clause-again
returns-clause-again c = printed_again
