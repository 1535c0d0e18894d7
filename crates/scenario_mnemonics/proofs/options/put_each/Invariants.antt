use Rattle.std.proofs.Common.{◌≡◌, ◌++◌, drop}
use Rattle.scenario_mnemonics.specs.Messages.{options_with}
use Rattle.scenario_mnemonics.proofs.options.put_each.Given as goal

-- what stands there, before what is still to come
abbrev pub invariant-loop-query : goal.invariant-loop-query
invariant-loop-query l =
    l.options ++ options_with 15 (drop l.query-index l.queries) ≡ l.initial.options ++ options_with 15 l.queries
