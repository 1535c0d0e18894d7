use Rattle.trace_pcap.specs.Transmissions.{transmissions}
use Rattle.trace_pcap.proofs.Read.{payloads}
use Rattle.trace_pcap.proofs.laws.packets_have_datagrams.Goals as goal

pub returns : goal.returns
returns c = λ s es. payloads 0 (transmissions s es)
