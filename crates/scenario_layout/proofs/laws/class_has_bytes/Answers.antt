use Rattle.scenario_layout.proofs.GoodClass.{class_good, first_good, one_longer}
use Rattle.scenario_layout.proofs.laws.class_has_bytes.Goals as goal

pub returns-clause-second : goal.returns-clause-second
returns-clause-second c = class_good c.args.template.now c.accounts-known.ensures.built

pub returns-clause-first : goal.returns-clause-first
returns-clause-first c = first_good c.args.template.now c.accounts-known.ensures.built

pub returns-clause-longer : goal.returns-clause-longer
returns-clause-longer c = one_longer c.args.template.now c.accounts-known.ensures.built
