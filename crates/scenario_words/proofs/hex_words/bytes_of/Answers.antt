use Rattle.std.proofs.Common.{sym}
use Rattle.scenario_words.proofs.HexLaws.{decoded_word, refused_word}
use Rattle.scenario_words.proofs.hex_words.bytes_of.Goals as goal

pub returns-in-Ok-clause-read : goal.returns-in-Ok-clause-read
returns-in-Ok-clause-read c =
    rw c.from_vec.ensures (decoded_word c.args.word.now c.in-Ok.bytes.items
    (sym c.if-is_name.ensures) c.in-Ok.ensures.ok)

pub returns-in-Err-clause-read : goal.returns-in-Err-clause-read
returns-in-Err-clause-read c = λ known.
    refused_word c.args.word.now c.in-Err.error c.hex_cause.result
    (sym c.if-is_name.ensures) c.in-Err.ensures.err c.hex_cause.ensures.memory c.hex_cause.ensures.token known
