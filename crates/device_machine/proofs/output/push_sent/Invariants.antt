-- The datagrams taken so far are sent after what was there, and there is room for the others.
use Rattle.std.proofs.Common.{◌≡◌, ◌+◌, ◌≤◌, ◌++◌, length, map}
use Rattle.std.specs.Prelude.{vec_capacity, vec_len}
use Rattle.std.specs.Vec.Iter.{into_iter_items, into_iter_len}
use Rattle.device_machine.specs.Reactions.{send_of}
use Rattle.device_machine.proofs.output.push_sent.Given as goal

abbrev pub invariant-loop-datagram : goal.invariant-loop-datagram
invariant-loop-datagram l = record {
  sent : l.items.items ≡ l.fn.items.items ++ map send_of l.yielded;
  count : into_iter_len l.datagram-iterator ≡ length (into_iter_items l.datagram-iterator);
  room : vec_len l.items + into_iter_len l.datagram-iterator ≤ vec_capacity l.items;
}
