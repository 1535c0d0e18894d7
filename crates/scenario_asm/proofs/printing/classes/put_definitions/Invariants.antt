use Rattle.std.proofs.Common.{◌≡◌, ◌++◌, map, drop}
use Rattle.std.specs.String.{string_bytes}
use Rattle.scenario_statements.specs.declared.statement.Statement.TheVariants.{Def}
use Rattle.scenario_asm.specs.Canonical.{printed_lines}
use Rattle.scenario_asm.proofs.printing.classes.put_definitions.Given as goal

-- what is written, and what is still to come
abbrev pub invariant-loop-definition : goal.invariant-loop-definition
invariant-loop-definition l =
    string_bytes l.out ++ printed_lines (map (λ d. Def d) (drop l.definition-index l.definitions))
    ≡ string_bytes l.initial.out ++ printed_lines (map (λ d. Def d) l.definitions)
