-- The packets among the outputs before the index were copied.
use Rattle.std.proofs.Common.{◌≡◌, take}
use Rattle.live_link.specs.Live.{packets_in}
use Rattle.live_link.proofs.sending.packets_of.Given as goal

abbrev pub invariant-loop-output : goal.invariant-loop-output
invariant-loop-output l = l.packets.items ≡ packets_in (take l.output-index l.outputs)
