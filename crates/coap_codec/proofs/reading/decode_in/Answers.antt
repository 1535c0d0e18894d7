use Rattle.coap_codec.proofs.Decoding.{is_only, is_refused, is_reading}
use Rattle.coap_codec.proofs.WithoutOptions.{no_option}
use Rattle.coap_codec.proofs.reading.decode_in.Goals as goal

pub returns-clause-only : goal.returns-clause-only
returns-clause-only c = is_only _ _ c.read.ensures.found c.read.ensures.fault

pub returns-clause-refused : goal.returns-clause-refused
returns-clause-refused c = is_refused _ _ c.read.ensures.found c.read.ensures.fault

pub returns-clause-reading : goal.returns-clause-reading
returns-clause-reading c = is_reading _ _ c.read.ensures.found c.read.ensures.fault

pub returns-clause-no_option : goal.returns-clause-no_option
returns-clause-no_option c = λ m spells none short.
    let bare = no_option _ m spells none in
    c.read.ensures.no_option m.payload bare.0 bare.1 short
