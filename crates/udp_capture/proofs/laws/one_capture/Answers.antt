use Rattle.udp_capture.proofs.Spelled.{one_list}
use Rattle.udp_capture.proofs.laws.one_capture.Goals as goal

pub returns : goal.returns
returns c = one_list
