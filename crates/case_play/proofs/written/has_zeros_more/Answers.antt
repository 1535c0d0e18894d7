use Rattle.std.proofs.Common.{arith}
use Rattle.case_play.proofs.Zeros.{breaks_off}
use Rattle.case_play.proofs.written.has_zeros_more.Goals as goal

pub returns-in_default : goal.returns-in_default
returns-in_default c =
    breaks_off c.args.zeros c.loop-byte.left c.loop-byte.byte-index c.args.bytes.now c.loop-byte.rest.now
    c.args.longer.now c.loop-byte.invariant (omega arith) c.in_default.ensures.none
