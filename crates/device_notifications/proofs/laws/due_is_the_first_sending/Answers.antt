use Rattle.device_notifications.proofs.Resting.{first_due, first_sending, quiet_second, rests_by_second}
use Rattle.device_notifications.proofs.laws.due_is_the_first_sending.Goals as goal

pub returns-clause-first : goal.returns-clause-first
returns-clause-first c = λ client now next_id os first. (
  first_sending client now next_id os first,
  first_due client now next_id os first,
)

pub returns-clause-none : goal.returns-clause-none
returns-clause-none c = λ client now next_id os. (
  λ h clock after fits. quiet_second client clock next_id os (h clock after fits),
  λ h clock after fits. rests_by_second client clock next_id os (h clock after fits),
)
