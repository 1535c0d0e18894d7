use Rattle.scenario_words.proofs.Digits.{IsUtf8-natural, parsed_natural}
use Rattle.scenario_words.proofs.number.natural_value.Goals as goal

pub returns-in_err-text : goal.returns-in_err-text
returns-in_err-text c = absurd (c.in_err-text.ensures (IsUtf8-natural c.args.digits.now c.requires))

pub returns : goal.returns
returns c =
    let reads = c.parse.ensures.value.0 in
    let same = c.in_ok-text.ensures.0 in
    rw c.ok.ensures.value (parsed_natural c.args.digits.now c.parse.result c.requires (rw same at reads))
