use Rattle.debug_answers.proofs.WithoutMemory.{break_left}
use Rattle.debug_answers.proofs.replies.answer.Goals as goal

pub returns-in-Break-clause-as_before_or_after : goal.returns-in-Break-clause-as_before_or_after
returns-in-Break-clause-as_before_or_after c =
    break_left c.add_break.result c.args.debugger.now c.add_break.new.debugger c.args.command c.in-Break.point
    c.break_of.result c.in-Break.is c.break_of.ensures c.add_break.ensures.as_before_or_after
