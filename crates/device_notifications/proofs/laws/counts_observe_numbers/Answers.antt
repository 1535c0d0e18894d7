use Rattle.device_notifications.proofs.Turns.{counts_observe_numbers}
use Rattle.device_notifications.proofs.Numbers.{seconds_count}
use Rattle.device_notifications.proofs.laws.counts_observe_numbers.Goals as goal

pub returns-clause-turn : goal.returns-clause-turn
returns-clause-turn c = counts_observe_numbers

pub returns-clause-more : goal.returns-clause-more
returns-clause-more c = seconds_count
