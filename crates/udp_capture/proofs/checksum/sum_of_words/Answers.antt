use Rattle.std.proofs.Common.{arith}
use Rattle.udp_capture.proofs.Words.{bytes_are, first_word, lone_word, sum_below}
use Rattle.udp_capture.proofs.checksum.sum_of_words.Goals as goal

pub overflow_add-total-in-len2-up : goal.overflow_add-total-in-len2-up
overflow_add-total-in-len2-up c =
    omega (
      arith,
      c.requires,
      c.loop-left.invariant,
      first_word c.loop-left.left.now c.in-len2-up.len_at_least,
      sum_below c.args.bytes.now (bytes_are c.args.bytes.now (λ i. omega (arith, c.type_inv.bytes i))),
    )

pub overflow_add-total-in-len1 : goal.overflow_add-total-in-len1
overflow_add-total-in-len1 c =
    omega (
      arith,
      c.requires,
      c.loop-left.invariant,
      lone_word c.loop-left.left.now (omega arith),
      sum_below c.args.bytes.now (bytes_are c.args.bytes.now (λ i. omega (arith, c.type_inv.bytes i))),
    )
