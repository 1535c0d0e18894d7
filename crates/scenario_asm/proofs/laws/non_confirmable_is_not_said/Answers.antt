use Rattle.std.proofs.Common.{◌∷◌, ◌++◌, map, ap}
use Rattle.std.specs.List.{flat_map}
use Rattle.scenario_layout.specs.Class.{instances_in, objects_in, values_in}
use Rattle.scenario_statements.specs.declared.statement.Statement.TheVariants.{Account, Class, Instance}
use Rattle.scenario_asm.specs.Canonical.{of_notify, of_object, of_value}
use Rattle.scenario_asm.proofs.laws.non_confirmable_is_not_said.Goals as goal

pub returns : goal.returns
returns c = λ k h.
    ap (λ n. Class ∷ (of_notify n ++ (map (λ s. Account s) k.accounts
    ++ (flat_map of_object (objects_in k)
    ++ (map (λ p. Instance p) (instances_in k) ++ map of_value (values_in k)))))) h
