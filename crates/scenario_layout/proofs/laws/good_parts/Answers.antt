use Rattle.scenario_layout.proofs.GoodObjects.{has_objects, each_defined, few_own, few_objects}
use Rattle.scenario_layout.proofs.GoodInstances.{few_instances}
use Rattle.scenario_layout.proofs.GoodEntries.{each_held, few_values}
use Rattle.scenario_layout.proofs.laws.good_parts.Goals as goal

pub returns-clause-objects : goal.returns-clause-objects
returns-clause-objects c =
    few_own c.args.template.now (has_objects c.args.template.now c.accounts-known.ensures.built)

pub returns-clause-defined : goal.returns-clause-defined
returns-clause-defined c =
    each_defined c.args.template.now (has_objects c.args.template.now c.accounts-known.ensures.built)

pub returns-clause-instances : goal.returns-clause-instances
returns-clause-instances c =
    few_instances c.args.template.now c.accounts-known.ensures.built
    (few_objects c.args.template.now (has_objects c.args.template.now c.accounts-known.ensures.built))

pub returns-clause-values : goal.returns-clause-values
returns-clause-values c = few_values c.args.template.now c.accounts-known.ensures.built

pub returns-clause-held : goal.returns-clause-held
returns-clause-held c = each_held c.args.template.now c.accounts-known.ensures.built
