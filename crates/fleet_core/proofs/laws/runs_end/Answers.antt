use Rattle.fleet_core.proofs.Posts.{ended_blocked, past_rows}
use Rattle.fleet_core.proofs.Valid.{need_group, post_group}
use Rattle.fleet_core.proofs.Ends.{no_more, begins, goes_waits, done_complete, made_most, enabled_by}
use Rattle.fleet_core.proofs.laws.runs_end.Goals as goal

pub returns-clause-complete : goal.returns-clause-complete
returns-clause-complete c = no_more

pub returns-clause-blocked : goal.returns-clause-blocked
returns-clause-blocked c = ended_blocked

pub returns-clause-begins : goal.returns-clause-begins
returns-clause-begins c = begins

pub returns-clause-past : goal.returns-clause-past
returns-clause-past c = past_rows

pub returns-clause-waits : goal.returns-clause-waits
returns-clause-waits c = goes_waits

pub returns-clause-done : goal.returns-clause-done
returns-clause-done c = done_complete

pub returns-clause-made : goal.returns-clause-made
returns-clause-made c = made_most

pub returns-clause-need : goal.returns-clause-need
returns-clause-need c = need_group

pub returns-clause-post : goal.returns-clause-post
returns-clause-post c = post_group

pub returns-clause-table : goal.returns-clause-table
returns-clause-table c = enabled_by
