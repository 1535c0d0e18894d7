use Rattle.live_link.proofs.Rows.{all_in_range, played_back, row_has_outputs, row_sent}
use Rattle.live_link.proofs.laws.sessions_are_rows.Goals as goal

pub returns-clause-sent : goal.returns-clause-sent
returns-clause-sent c = row_sent

pub returns-clause-outputs : goal.returns-clause-outputs
returns-clause-outputs c = row_has_outputs

pub returns-clause-played : goal.returns-clause-played
returns-clause-played c = played_back

pub returns-clause-in_range : goal.returns-clause-in_range
returns-clause-in_range c = all_in_range
