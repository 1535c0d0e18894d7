use Rattle.std.proofs.Common.{◌≡◌, ◌++◌, [], take}
use Rattle.byte_layout.proofs.Written.{spelled}
use Rattle.byte_layout.proofs.items.put_items.Given as goal

abbrev pub invariant-loop-i : goal.invariant-loop-i
invariant-loop-i g l = l.out.items ≡ l.fn.out.items ++ spelled (g.I.Items.part l.items) [] (take l.i l.list)
