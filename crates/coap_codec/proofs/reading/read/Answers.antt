use Rattle.coap_codec.proofs.Decoding.{is_well_formed}
use Rattle.coap_codec.proofs.reading.read.Goals as goal

pub of_parts-requires : goal.of_parts-requires
of_parts-requires c =
    let s = c.in_ok-start.ensures in
    let o = c.in_ok-options.ensures in
    is_well_formed _ _ _ _ _ _ _ _ _ _ s.range.0 s.range.1 c.in_ok-token.ensures.copy s.token c.from_vec.ensures
    o.follow
    c.in_ok-payload.ensures.copy o.parts s.empty
