use Rattle.std.proofs.Common.{[], ◌-◌}
use Rattle.byte_layout.specs.Layout.{each}
use Rattle.byte_layout.proofs.Loop.{IsLeft}
use Rattle.byte_layout.proofs.items.items_at.Given as goal

abbrev pub invariant-loop : goal.invariant-loop
invariant-loop g l =
    let part = g.I.Items.part l.items in
    IsLeft part l.found.items (l.count - l.counter) l.rest ((each part l.count []).read l.bytes)
