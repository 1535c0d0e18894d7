-- The bytes so far are digits of this number, and the others are still to be counted.
use Rattle.std.proofs.Common.{◌≡◌, ◌+◌, ◌<◌, drop}
use Rattle.notifier.specs.NumberEnd.{seconds_in}
use Rattle.notifier.proofs.number_end.seconds_end.Given as goal

abbrev pub invariant-loop-byte : goal.invariant-loop-byte
invariant-loop-byte l = record {
  count : l.count ≡ l.byte-index;
  small : l.number < 2147483648;
  rest : seconds_in 0 l.text ≡ l.byte-index + seconds_in l.number (drop l.byte-index l.text);
}
