use Rattle.std.proofs.Common.{◌≡◌, ap, ◌∙◌, arith}
use Rattle.std.specs.Prelude.{sum}
use Rattle.udp_capture.specs.Checksum.{sixteen_bit_words, checksum}
use Rattle.udp_capture.specs.Packet.{pseudo_header, udp_header, udp_length, udp_covered, sent_checksum}
use Rattle.udp_capture.proofs.Words.{bytes_are, sum_below}
use Rattle.udp_capture.proofs.Headers.{covered_words, covered_sum, pseudo_below, udp_below}
use Rattle.udp_capture.proofs.packet.udp_checksum.Goals as goal

pub overflow_add-before : goal.overflow_add-before
overflow_add-before c =
    let p = c.args.payload.now in
    omega (
      arith,
      c.sum_of_words-before.ensures ∙ ap (λ b. sum (sixteen_bit_words b)) c.pseudo_header.ensures,
      c.sum_of_words-header.ensures ∙ ap (λ b. sum (sixteen_bit_words b)) c.udp_header.ensures,
      pseudo_below (udp_length p) c.args.source c.args.destination,
      udp_below (udp_length p) 0 c.args.source c.args.destination,
    )

pub overflow_add-before-2 : goal.overflow_add-before-2
overflow_add-before-2 c =
    let p = c.args.payload.now in
    omega (
      arith,
      c.requires,
      c.sum_of_words-before.ensures ∙ ap (λ b. sum (sixteen_bit_words b)) c.pseudo_header.ensures,
      c.sum_of_words-header.ensures ∙ ap (λ b. sum (sixteen_bit_words b)) c.udp_header.ensures,
      c.sum_of_words.ensures,
      pseudo_below (udp_length p) c.args.source c.args.destination,
      udp_below (udp_length p) 0 c.args.source c.args.destination,
      sum_below p (bytes_are p (λ i. omega (arith, c.type_inv.payload i))),
    )

-- the code's sum is that of what the checksum covers
pub returns : goal.returns
returns c =
    let p = c.args.payload.now in
    let covered = udp_covered 0 c.args.source c.args.destination p in
    let is : c.checksum_of_sum.result ≡ checksum covered =
    c.checksum_of_sum.ensures (sixteen_bit_words covered)
    (covered_words 0 c.args.source c.args.destination p (bytes_are p (λ i. omega (arith, c.type_inv.payload i))))
    (omega (
      arith,
      covered_sum 0 c.args.source c.args.destination p,
      c.sum_of_words-before.ensures ∙ ap (λ b. sum (sixteen_bit_words b)) c.pseudo_header.ensures,
      c.sum_of_words-header.ensures ∙ ap (λ b. sum (sixteen_bit_words b)) c.udp_header.ensures,
      c.sum_of_words.ensures,
    )) in
    c.sent_checksum.ensures ∙ ap sent_checksum is
