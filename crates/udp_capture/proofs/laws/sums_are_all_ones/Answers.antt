use Rattle.udp_capture.specs.Packet.{total_length}
use Rattle.udp_capture.proofs.Headers.{ip_all_ones, udp_all_ones}
use Rattle.udp_capture.proofs.laws.sums_are_all_ones.Goals as goal

pub returns-clause-ip : goal.returns-clause-ip
returns-clause-ip c = λ p fits. ip_all_ones (total_length p.payload) p.envelope.source p.envelope.destination

pub returns-clause-udp : goal.returns-clause-udp
returns-clause-udp c = λ p fits. udp_all_ones p.envelope.source p.envelope.destination p.payload fits.bytes
