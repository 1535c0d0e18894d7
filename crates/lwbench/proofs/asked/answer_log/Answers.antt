use Rattle.lwbench.proofs.Ended.{log_refused, log_said}
use Rattle.lwbench.proofs.asked.answer_log.Goals as goal

pub returns-in_err-answer : goal.returns-in_err-answer
returns-in_err-answer g c = λ terminal words is_read.
    log_refused _ _ _ _ terminal words c.args.server c.from_residual.result c.in_err-answer.field-0.0
    c.from_residual.ensures.1 is_read c.in_err-answer.ensures.refused c.say_input.ensures.within
    c.say_input.ensures.only

pub returns : goal.returns
returns g c = λ terminal words is_read.
    log_said _ _ _ (g.W.World.seen c.say_input.new.world) _ terminal words c.args.server c.in_ok-answer.answer
    c.deliver.result is_read
    c.in_ok-answer.ensures.done c.say_input.ensures.within c.say_input.ensures.only c.deliver.ensures.status
    c.deliver.ensures.made c.deliver.ensures.printed c.deliver.ensures.refused c.deliver.ensures.aside
