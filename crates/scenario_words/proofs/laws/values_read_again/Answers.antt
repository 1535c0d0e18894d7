use Rattle.scenario_words.proofs.ValueLaws.{value_words, value_at_again}
use Rattle.scenario_words.proofs.laws.values_read_again.Goals as goal

pub returns-clause-words : goal.returns-clause-words
returns-clause-words c = λ v h. value_words v h

pub returns-clause-value : goal.returns-clause-value
returns-clause-value c = λ v ws h. value_at_again v ws h
