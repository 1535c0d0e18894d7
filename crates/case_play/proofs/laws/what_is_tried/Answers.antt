use Rattle.case_play.proofs.Changed.{fronts_are, changes_are}
use Rattle.case_play.proofs.laws.what_is_tried.Goals as goal

pub returns-clause-fronts : goal.returns-clause-fronts
returns-clause-fronts c = fronts_are

pub returns-clause-changes : goal.returns-clause-changes
returns-clause-changes c = changes_are
