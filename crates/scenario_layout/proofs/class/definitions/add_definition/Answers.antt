use Rattle.std.proofs.Common.{◌∙◌}
use Rattle.scenario_layout.proofs.Defined.{only_memory, clash}
use Rattle.scenario_layout.proofs.class.definitions.add_definition.Goals as goal

pub returns-in-Err-clause-only_memory : goal.returns-in-Err-clause-only_memory
returns-in-Err-clause-only_memory c =
    c.refusal.ensures ∙ only_memory c.in-Err.fault 0
    (λ other. clash _ c.in-Err.fault c.requires (c.in-Err.ensures.refused other))
