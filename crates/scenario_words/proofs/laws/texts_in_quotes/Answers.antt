use Rattle.scenario_words.proofs.Pairs.{quoted_law, quoted_written}
use Rattle.scenario_words.proofs.laws.texts_in_quotes.Goals as goal

pub returns-clause-read : goal.returns-clause-read
returns-clause-read c = λ w t. quoted_law w t

pub returns-clause-written : goal.returns-clause-written
returns-clause-written c = λ t h k. quoted_written t h k
