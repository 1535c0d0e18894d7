use Rattle.scenario_layout.proofs.GoodValue.{place_good, path_good, kind_good, value_good, good_value}
use Rattle.scenario_layout.proofs.Definitions.{resource_good}
use Rattle.scenario_layout.proofs.laws.what_has_bytes.Goals as goal

pub returns-clause-place : goal.returns-clause-place
returns-clause-place c = place_good

pub returns-clause-path : goal.returns-clause-path
returns-clause-path c = path_good

pub returns-clause-kind : goal.returns-clause-kind
returns-clause-kind c = kind_good

pub returns-clause-value : goal.returns-clause-value
returns-clause-value c = value_good

pub returns-clause-good : goal.returns-clause-good
returns-clause-good c = good_value

pub returns-clause-definition : goal.returns-clause-definition
returns-clause-definition c = resource_good
