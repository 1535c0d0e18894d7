use Rattle.std.proofs.lemmas.Result.{IfOk-weaker}
use Rattle.std.specs.String.{string_bytes}
use Rattle.message_words.proofs.OneLine.{datagram_said}
use Rattle.message_words.proofs.Readings.{refused, spelled}
use Rattle.message_words.proofs.text.datagram_text.Goals as goal

pub returns-clause-message : goal.returns-clause-message
returns-clause-message c = λ m spells.
    IfOk-weaker c.words_said.result _ _ (λ text said. spelled (string_bytes text) c.args.bytes.now m said spells)
    c.words_said.ensures

pub returns-clause-fault : goal.returns-clause-fault
returns-clause-fault c = λ f has.
    IfOk-weaker c.words_said.result _ _ (λ text said. refused (string_bytes text) c.args.bytes.now f said has)
    c.words_said.ensures

pub returns-clause-one_line : goal.returns-clause-one_line
returns-clause-one_line c =
    IfOk-weaker c.words_said.result _ _ (λ text said. datagram_said (string_bytes text) c.args.bytes.now said)
    c.words_said.ensures
