use Rattle.std.proofs.Common.{refl}
use Rattle.command_line.specs.declared.words.Asked.TheVariants as asked
use Rattle.lwbench.proofs.Ended.{answered, conversed, unanswered}
use Rattle.lwbench.proofs.asked.answer_job.Goals as goal

pub returns-in_err-answered : goal.returns-in_err-answered
returns-in_err-answered g c = λ terminal words is_read.
    unanswered _ _ _ _ terminal words (asked.Job c.args.job) c.from_residual.result c.in_err-answered.field-0.0
    c.from_residual.ensures.1 is_read c.in_err-answered.ensures.refused c.answer_to.ensures.none_made

pub returns-in-Some : goal.returns-in-Some
returns-in-Some g c = λ terminal words is_read.
    let right = rw c.in-Some.is at c.in_ok-answered.ensures.done in
    let idle = rw c.in-Some.is at c.in_ok-answered.ensures.idle in
    answered _ _ _ (g.W.World.seen c.answer_to.new.world) _ terminal words
    (asked.Job c.args.job) c.in-Some.answer c.deliver.result is_read right
    c.answer_to.ensures.none_made idle c.deliver.ensures.status c.deliver.ensures.made c.deliver.ensures.printed
    c.deliver.ensures.refused c.deliver.ensures.aside

pub returns-in-None : goal.returns-in-None
returns-in-None g c = λ terminal words is_read.
    let debugged = rw c.in-None.is at c.in_ok-answered.ensures.debugged in
    conversed _ _ _ _ terminal words (asked.Job c.args.job) _ is_read debugged refl c.answer_to.ensures.none_made
