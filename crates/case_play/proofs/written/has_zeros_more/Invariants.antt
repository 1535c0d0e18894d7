-- What is left of the bytes and of the zeros is for what is still to come of the longer list.
use Rattle.std.proofs.Common.{◌↔◌, drop}
use Rattle.case_play.specs.Written.{HasZerosMore}
use Rattle.case_play.proofs.written.has_zeros_more.Given as goal

abbrev pub invariant-loop-byte : goal.invariant-loop-byte
invariant-loop-byte l =
    HasZerosMore l.zeros l.bytes l.longer ↔ HasZerosMore l.left l.rest (drop l.byte-index l.longer)
