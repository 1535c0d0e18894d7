use Rattle.scenario_statements.proofs.Again.{words_of_line, line_alone, statement_again}
use Rattle.scenario_statements.proofs.laws.statements_read_again.Goals as goal

pub returns-clause-words : goal.returns-clause-words
returns-clause-words c = λ s h. words_of_line s h

pub returns-clause-line : goal.returns-clause-line
returns-clause-line c = λ s h. line_alone s h

pub returns-clause-statement : goal.returns-clause-statement
returns-clause-statement c = λ s h. statement_again s h
