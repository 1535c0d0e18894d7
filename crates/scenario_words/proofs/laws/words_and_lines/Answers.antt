use Rattle.scenario_words.proofs.WordLaws.{words_again, lines_again}
use Rattle.scenario_words.proofs.laws.words_and_lines.Goals as goal

pub returns-clause-words : goal.returns-clause-words
returns-clause-words c = λ ws h. words_again ws h

pub returns-clause-lines : goal.returns-clause-lines
returns-clause-lines c = λ ls h. lines_again ls h
