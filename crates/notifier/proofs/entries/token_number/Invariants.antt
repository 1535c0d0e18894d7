-- The number of the bytes so far.
use Rattle.std.proofs.Common.{◌≡◌, take}
use Rattle.notifier.specs.Inside.{token_number}
use Rattle.notifier.proofs.entries.token_number.Given as goal

abbrev pub invariant-loop-byte : goal.invariant-loop-byte
invariant-loop-byte l = l.number ≡ token_number (take l.byte-index l.token)
