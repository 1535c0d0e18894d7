use Rattle.laws_requests.proofs.Serving.{default_served, formats_served, named_given, others_take}
use Rattle.laws_requests.proofs.laws.formats_are_served.Goals as goal

pub returns-clause-served : goal.returns-clause-served
returns-clause-served c = formats_served

pub returns-clause-named : goal.returns-clause-named
returns-clause-named c = named_given

pub returns-clause-default : goal.returns-clause-default
returns-clause-default c = default_served

pub returns-clause-others : goal.returns-clause-others
returns-clause-others c = others_take
