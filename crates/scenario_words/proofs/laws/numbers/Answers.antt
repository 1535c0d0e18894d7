use Rattle.scenario_words.proofs.NumberLaws.{number_of-law, integer_of-law}
use Rattle.scenario_words.proofs.laws.numbers.Goals as goal

pub returns-clause-natural : goal.returns-clause-natural
returns-clause-natural c = λ low high n w h. number_of-law low high n w h

pub returns-clause-integer : goal.returns-clause-integer
returns-clause-integer c = λ z w. integer_of-law z w
