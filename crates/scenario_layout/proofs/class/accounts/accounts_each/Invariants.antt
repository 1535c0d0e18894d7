use Rattle.std.proofs.Common.{◌-◌, []}
use Rattle.byte_layout.specs.Layout.{each}
use Rattle.scenario_layout.specs.Class.{account, with_accounts}
use Rattle.scenario_layout.proofs.Growth.{IsFilled}
use Rattle.scenario_layout.proofs.class.accounts.accounts_each.Given as goal

-- the class has the accounts that were read
abbrev pub invariant-loop : goal.invariant-loop
invariant-loop l =
    IsFilled (λ c. account) (λ c. c.accounts) with_accounts l.fn.template l.template (l.count - l.counter) l.rest
    ((each account l.count []).read l.fn.bytes)
