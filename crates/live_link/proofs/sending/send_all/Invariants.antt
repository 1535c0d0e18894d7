-- The packets so far were sent; the others are still to come, and there is room for them.
use Rattle.std.proofs.Common.{◌≡◌, ◌+◌, ◌≤◌, ◌++◌, length}
use Rattle.std.specs.Prelude.{vec_capacity, vec_len}
use Rattle.std.specs.Vec.Iter.{into_iter_items, into_iter_len}
use Rattle.live_link.specs.Serving.{AreSent}
use Rattle.live_link.proofs.sending.send_all.Given as goal

abbrev pub invariant-loop-packet : goal.invariant-loop-packet
invariant-loop-packet g l = record {
  sent : AreSent l.yielded 0 0 l.fn.sent.items l.sent.items (g.W.Wire.told l.fn.wire) (g.W.Wire.told l.wire);
  left : l.yielded ++ into_iter_items l.packet-iterator ≡ into_iter_items l.initial.packet-iterator;
  count : into_iter_len l.packet-iterator ≡ length (into_iter_items l.packet-iterator);
  room : vec_len l.sent + into_iter_len l.packet-iterator ≤ vec_capacity l.sent;
}
