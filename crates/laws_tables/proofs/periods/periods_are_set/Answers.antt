use Rattle.laws_tables.proofs.Timing.{maximums_set, minimums_set}
use Rattle.laws_tables.proofs.periods.periods_are_set.Goals as goal

pub returns-clause-minimum : goal.returns-clause-minimum
returns-clause-minimum c = minimums_set

pub returns-clause-maximum : goal.returns-clause-maximum
returns-clause-maximum c = maximums_set
