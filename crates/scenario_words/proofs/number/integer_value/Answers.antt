use Rattle.scenario_words.proofs.Digits.{IsUtf8-number, parsed_integer}
use Rattle.scenario_words.proofs.number.integer_value.Goals as goal

pub returns-in_err-text : goal.returns-in_err-text
returns-in_err-text c = absurd (c.in_err-text.ensures (IsUtf8-number c.args.word.now c.requires))

pub returns : goal.returns
returns c =
    let reads = c.parse.ensures.value.0 in
    let same = c.in_ok-text.ensures.0 in
    rw c.ok.ensures.value (parsed_integer c.args.word.now c.parse.result c.requires (rw same at reads))
