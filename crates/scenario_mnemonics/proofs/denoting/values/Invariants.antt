use Rattle.std.proofs.Common.{◌≡◌, ◌++◌, drop}
use Rattle.scenario_mnemonics.specs.Denoting.{values}
use Rattle.scenario_mnemonics.proofs.denoting.values.Given as goal

-- what was found, before what is still to come
abbrev pub invariant-loop-option : goal.invariant-loop-option
invariant-loop-option l = l.found.items ++ values l.number (drop l.option-index l.options) ≡ values l.number l.options
