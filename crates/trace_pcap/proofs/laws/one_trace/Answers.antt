use Rattle.trace_pcap.proofs.Read.{traces_alike}
use Rattle.trace_pcap.proofs.laws.one_trace.Goals as goal

pub returns : goal.returns
returns c = traces_alike
