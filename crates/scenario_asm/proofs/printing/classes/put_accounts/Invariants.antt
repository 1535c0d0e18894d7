use Rattle.std.proofs.Common.{◌≡◌, ◌++◌, map, drop}
use Rattle.std.specs.String.{string_bytes}
use Rattle.scenario_statements.specs.declared.statement.Statement.TheVariants.{Account}
use Rattle.scenario_asm.specs.Canonical.{printed_lines}
use Rattle.scenario_asm.proofs.printing.classes.put_accounts.Given as goal

-- what is written, and what is still to come
abbrev pub invariant-loop-account : goal.invariant-loop-account
invariant-loop-account l =
    string_bytes l.out ++ printed_lines (map (λ s. Account s) (drop l.account-index l.accounts))
    ≡ string_bytes l.initial.out ++ printed_lines (map (λ s. Account s) l.accounts)
