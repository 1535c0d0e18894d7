-- What is added up, and what is still to come.
use Rattle.std.proofs.Common.{◌≡◌, ◌+◌, length}
use Rattle.std.specs.Prelude.{sum}
use Rattle.udp_capture.specs.Checksum.{sixteen_bit_words}
use Rattle.udp_capture.proofs.checksum.sum_of_words.Given as goal

abbrev pub invariant-loop-left : goal.invariant-loop-left
invariant-loop-left l = l.total + sum (sixteen_bit_words l.left) ≡ sum (sixteen_bit_words l.bytes)

abbrev pub decreases-loop-left : goal.decreases-loop-left
decreases-loop-left l = length l.left
