-- No answer of this line stands above.
use Rattle.std.proofs.Common.{◌≡◌, drop}
use Rattle.command_test.specs.Stated.{stated_in}
use Rattle.command_test.proofs.sending.stated_in.Given as goal

abbrev pub invariant-loop-item : goal.invariant-loop-item
invariant-loop-item l = stated_in l.line (drop l.item-index l.items) ≡ stated_in l.line l.items
