use Rattle.std.proofs.Common.{◌+◌}
use Rattle.trace_text.proofs.Shown.{second_is}
use Rattle.trace_pcap.proofs.laws.seconds_are_clocks.Goals as goal

pub returns : goal.returns
returns c = λ s e class steps row. second_is s e.device (e.step + 1) class steps row
