-- The bytes so far are digits, and the others are still to be counted.
use Rattle.std.proofs.Common.{◌≡◌, ◌+◌, ◌-◌, ◌≤◌, drop}
use Rattle.notifier.specs.NumberEnd.{digits_in}
use Rattle.notifier.proofs.number_end.digits_in.Given as goal

abbrev pub invariant-loop-byte : goal.invariant-loop-byte
invariant-loop-byte l = record {
  count : l.count ≡ l.byte-index;
  most : l.byte-index ≤ l.most;
  rest : digits_in l.most l.text ≡ l.byte-index + digits_in (l.most - l.byte-index) (drop l.byte-index l.text);
}
