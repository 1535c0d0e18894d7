use Rattle.std.proofs.Common.{◌≡◌, ◌++◌, map, drop}
use Rattle.std.specs.String.{string_bytes}
use Rattle.scenario_statements.specs.declared.statement.Statement.TheVariants.{Instance}
use Rattle.scenario_asm.specs.Canonical.{printed_lines}
use Rattle.scenario_asm.proofs.printing.classes.put_instances.Given as goal

-- what is written, and what is still to come
abbrev pub invariant-loop-place : goal.invariant-loop-place
invariant-loop-place l =
    string_bytes l.out ++ printed_lines (map (λ p. Instance p) (drop l.place-index l.instances))
    ≡ string_bytes l.initial.out ++ printed_lines (map (λ p. Instance p) l.instances)
