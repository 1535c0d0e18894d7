use Rattle.std.proofs.Common.{◌∙◌}
use Rattle.scenario_asm.proofs.Refusals.{class_refused}
use Rattle.scenario_asm.proofs.class.add_definition.Goals as goal

pub returns-clause-refused : goal.returns-clause-refused
returns-clause-refused c =
    λ k e. c.of_class.ensures ∙ class_refused _ _ c.add_resource.result k c.add_resource.ensures.refuses e
