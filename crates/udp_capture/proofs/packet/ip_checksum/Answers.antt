use Rattle.std.proofs.Common.{ap, sym, ◌∙◌}
use Rattle.std.specs.Prelude.{sum}
use Rattle.udp_capture.specs.Checksum.{sixteen_bit_words}
use Rattle.udp_capture.specs.Packet.{ip_header}
use Rattle.udp_capture.proofs.Headers.{header_words, are_words}
use Rattle.udp_capture.proofs.packet.ip_checksum.Goals as goal

pub returns : goal.returns
returns c =
    let header = ip_header c.args.total 0 c.args.source c.args.destination in
    c.checksum_of_sum.ensures (header_words header) (are_words header)
    (ap (λ b. sum (sixteen_bit_words b)) (sym c.ip_header.ensures) ∙ sym c.sum_of_words.ensures)
