use Rattle.laws_text.proofs.Wrong.{later_lines, nothing_else_ends, nothing_is_missing, refused_at_first}
use Rattle.laws_text.proofs.laws.refused_at_first_wrong_line.Goals as goal

pub returns-clause-line : goal.returns-clause-line
returns-clause-line c = refused_at_first

pub returns-clause-stays : goal.returns-clause-stays
returns-clause-stays c = later_lines

pub returns-clause-nothing : goal.returns-clause-nothing
returns-clause-nothing c = nothing_is_missing

pub returns-clause-end : goal.returns-clause-end
returns-clause-end c = nothing_else_ends
