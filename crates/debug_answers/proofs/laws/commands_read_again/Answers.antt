use Rattle.debug_answers.proofs.Written.{found_again, said}
use Rattle.debug_answers.proofs.laws.commands_read_again.Goals as goal

pub returns-clause-words_say_it : goal.returns-clause-words_say_it
returns-clause-words_say_it c = λ a h. said a h

pub returns-clause-words_found_again : goal.returns-clause-words_found_again
returns-clause-words_found_again c = λ a h. found_again a h
