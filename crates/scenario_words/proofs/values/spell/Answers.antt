use Rattle.std.specs.String.{string_bytes}
use Rattle.scenario_words.proofs.ValueLaws.{read_again}
use Rattle.scenario_words.proofs.values.spell.Goals as goal

pub returns-clause-again : goal.returns-clause-again
returns-clause-again c = λ h. read_again string_bytes c.spelling.result c.args.value.now c.spelling.ensures h
