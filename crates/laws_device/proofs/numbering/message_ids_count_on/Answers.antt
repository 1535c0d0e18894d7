use Rattle.laws_device.proofs.Counted.{rows_count}
use Rattle.laws_device.proofs.NumberedReplies.{events_number_on, starts_unsent}
use Rattle.laws_device.proofs.numbering.message_ids_count_on.Goals as goal

pub returns-clause-starts : goal.returns-clause-starts
returns-clause-starts c = starts_unsent

pub returns-clause-events : goal.returns-clause-events
returns-clause-events c = events_number_on

pub returns-clause-rows : goal.returns-clause-rows
returns-clause-rows c = rows_count starts_unsent events_number_on
