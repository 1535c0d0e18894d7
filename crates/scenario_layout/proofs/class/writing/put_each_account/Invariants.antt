use Rattle.std.proofs.Common.{◌≡◌, ◌++◌, [], take}
use Rattle.byte_layout.proofs.Written.{spelled}
use Rattle.scenario_layout.specs.Class.{account}
use Rattle.scenario_layout.proofs.class.writing.put_each_account.Given as goal

abbrev pub invariant-loop-number : goal.invariant-loop-number
invariant-loop-number l = l.out.items ≡ l.fn.out.items ++ spelled account [] (take l.number-index l.list)
