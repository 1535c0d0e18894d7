use Rattle.scenario_mnemonics.proofs.Spelling.{keyword_again, mnemonic_again, all_words, line_again}
use Rattle.scenario_mnemonics.proofs.laws.words_again.Goals as goal

pub returns-clause-keyword : goal.returns-clause-keyword
returns-clause-keyword c = λ k. keyword_again k

pub returns-clause-read : goal.returns-clause-read
returns-clause-read c = λ server m some small h. mnemonic_again server m some small h

pub returns-clause-words : goal.returns-clause-words
returns-clause-words c = λ server m small h. all_words server m small h

pub returns-clause-line : goal.returns-clause-line
returns-clause-line c = λ server m small h. line_again server m small h
