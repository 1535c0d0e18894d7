use Rattle.hex.specs.Hex.{decode_of}
use Rattle.case_text.proofs.Decoded.{refused}
use Rattle.case_text.proofs.bytes_words.decoded.Goals as goal

pub returns-in-Err : goal.returns-in-Err
returns-in-Err c = λ known.
    refused (decode_of c.args.hex.now) c.in-Err.error c.hex_cause.result c.in-Err.ensures.err
    c.hex_cause.ensures.memory c.hex_cause.ensures.token known
