use Rattle.debug_answers.proofs.ReplyParts.{asks_for_end, asks_nothing, note_of}
use Rattle.debug_answers.proofs.replies.reply_to.Goals as goal

pub returns-in_ok-answer-in-Some-clause-asks_for_end : goal.returns-in_ok-answer-in-Some-clause-asks_for_end
returns-in_ok-answer-in-Some-clause-asks_for_end c =
    asks_for_end c.args.reasons c.args.line.now c.in-Some.command c.is_quit.result c.in-Some.ensures.line_says_it
    c.in-Some.ensures.only_command
    c.is_quit.ensures

pub returns-in_ok-note_on-in-None-clause-asks_for_end : goal.returns-in_ok-note_on-in-None-clause-asks_for_end
returns-in_ok-note_on-in-None-clause-asks_for_end c =
    asks_nothing c.args.reasons c.args.line.now c.in-None.ensures.no_command

pub returns-in_ok-note_on-in-None-clause-note : goal.returns-in_ok-note_on-in-None-clause-note
returns-in_ok-note_on-in-None-clause-note c =
    note_of c.args.reasons c.args.line.now _ c.in-None.ensures.no_command c.in_ok-note_on-in-None.ensures.help
    c.in_ok-note_on-in-None.ensures.other_line
