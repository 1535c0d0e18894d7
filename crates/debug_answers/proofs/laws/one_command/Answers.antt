use Rattle.debug_answers.proofs.Again.{help_apart, one}
use Rattle.debug_answers.proofs.Written.{good}
use Rattle.debug_answers.proofs.laws.one_command.Goals as goal

pub returns-clause-at_most_one : goal.returns-clause-at_most_one
returns-clause-at_most_one c = λ a b ws h k. one a b ws h k

pub returns-clause-numbers_fit : goal.returns-clause-numbers_fit
returns-clause-numbers_fit c = λ a ws h. good a ws h

pub returns-clause-help_says_none : goal.returns-clause-help_says_none
returns-clause-help_says_none c = λ a line h k. help_apart a _ h.1 k.1
