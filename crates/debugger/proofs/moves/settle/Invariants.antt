-- Those that are left go to the places of others, and the rest is settled.
use Rattle.std.proofs.Common.{◌≡◌, length, take, vec_len}
use Rattle.debugger.specs.Moves.{AreMoved}
use Rattle.debugger.proofs.moves.settle.Given as goal

abbrev pub invariant-loop-next : goal.invariant-loop-next
invariant-loop-next l = record {
  count : length l.devices.items ≡ length l.initial.devices.items;
  moved : AreMoved l._scenario (take l._to l._entries) l.made.items l.devices.items l.moved.items;
}

abbrev pub decreases-loop-next : goal.decreases-loop-next
decreases-loop-next l = vec_len l.moved
