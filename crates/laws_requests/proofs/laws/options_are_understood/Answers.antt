use Rattle.laws_requests.proofs.FirstOptions.{first_names, segments_name, values_in_order}
use Rattle.laws_requests.proofs.LeavingOut.{others_say_nothing}
use Rattle.laws_requests.proofs.Understanding.{critical_understood}
use Rattle.laws_requests.proofs.laws.options_are_understood.Goals as goal

pub returns-clause-critical : goal.returns-clause-critical
returns-clause-critical c = critical_understood

pub returns-clause-first : goal.returns-clause-first
returns-clause-first c = first_names

pub returns-clause-values : goal.returns-clause-values
returns-clause-values c = values_in_order

pub returns-clause-path : goal.returns-clause-path
returns-clause-path c = segments_name

pub returns-clause-others : goal.returns-clause-others
returns-clause-others c = others_say_nothing
