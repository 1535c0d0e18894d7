use Rattle.debug_answers.proofs.Again.{read_again, read_none, read_said}
use Rattle.scenario_words.specs.Words.{words}
use Rattle.debug_answers.proofs.reading.read_words.Goals as goal

pub returns-clause-line_says_it : goal.returns-clause-line_says_it
returns-clause-line_says_it c =
    rw c.ok.ensures.value (read_said c.command_of.result (words c.args.line.now) c.command_of.ensures)

pub returns-clause-no_command : goal.returns-clause-no_command
returns-clause-no_command c =
    rw c.ok.ensures.value (read_none c.command_of.result (words c.args.line.now) c.command_of.ensures)

pub returns-clause-only_command : goal.returns-clause-only_command
returns-clause-only_command c =
    rw c.ok.ensures.value (read_again c.command_of.result (words c.args.line.now) c.command_of.ensures)
