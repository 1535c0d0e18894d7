use Rattle.scenario_layout.proofs.ExactValue.{place_exact, path_exact, kind_exact, value_exact}
use Rattle.scenario_layout.proofs.Definitions.{resource_exact, resources_exact}
use Rattle.scenario_layout.proofs.ExactClass.{class_exact}
use Rattle.scenario_layout.proofs.laws.exact_layouts.Goals as goal

pub returns-clause-place : goal.returns-clause-place
returns-clause-place c = place_exact

pub returns-clause-path : goal.returns-clause-path
returns-clause-path c = path_exact

pub returns-clause-kind : goal.returns-clause-kind
returns-clause-kind c = kind_exact

pub returns-clause-value : goal.returns-clause-value
returns-clause-value c = value_exact

pub returns-clause-definition : goal.returns-clause-definition
returns-clause-definition c = resource_exact

pub returns-clause-definitions : goal.returns-clause-definitions
returns-clause-definitions c = resources_exact

pub returns-clause-class : goal.returns-clause-class
returns-clause-class c = class_exact
