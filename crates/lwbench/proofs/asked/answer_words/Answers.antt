use Rattle.std.proofs.Common.{subst}
use Rattle.command_line.specs.Words.{IsReadAs}
use Rattle.lwbench.proofs.Ended.{lived}
use Rattle.lwbench.proofs.asked.answer_words.Goals as goal

pub returns-in-Live : goal.returns-in-Live
returns-in-Live g c = λ words is_read.
    lived _ _ _ _ _ words c.in-Live.asked c.live.result (subst (IsReadAs words) c.in-Live.is is_read)
    c.live.ensures.done c.live.ensures.status c.live.ensures.refused c.live.ensures.kept c.live.ensures.aside

pub returns-in-Fleet : goal.returns-in-Fleet
returns-in-Fleet g c = λ words is_read.
    c.answer_fleet.ensures words (subst (IsReadAs words) c.in-Fleet.is is_read)

pub returns-in-Log : goal.returns-in-Log
returns-in-Log g c = λ words is_read.
    c.answer_log.ensures c.args.terminal words (subst (IsReadAs words) c.in-Log.is is_read)

pub returns-in-Job : goal.returns-in-Job
returns-in-Job g c = λ words is_read.
    c.answer_job.ensures c.args.terminal words (subst (IsReadAs words) c.in-Job.is is_read)

pub returns-in-Text : goal.returns-in-Text
returns-in-Text g c = λ words is_read.
    c.answer_text.ensures c.args.terminal words (subst (IsReadAs words) c.in-Text.is is_read)
