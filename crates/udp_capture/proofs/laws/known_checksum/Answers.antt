use Rattle.std.proofs.Common.{refl}
use Rattle.udp_capture.specs.Packet.{ip_header}
use Rattle.udp_capture.proofs.laws.known_checksum.Goals as goal

pub returns : goal.returns
unfolding ip_header
returns c = refl
