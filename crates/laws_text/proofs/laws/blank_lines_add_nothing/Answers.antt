use Rattle.laws_text.proofs.Worded.{add_nothing, move_faults, words_alone}
use Rattle.laws_text.proofs.laws.blank_lines_add_nothing.Goals as goal

pub returns-clause-words : goal.returns-clause-words
returns-clause-words c = words_alone

pub returns-clause-scenario : goal.returns-clause-scenario
returns-clause-scenario c = add_nothing

pub returns-clause-fault : goal.returns-clause-fault
returns-clause-fault c = move_faults
