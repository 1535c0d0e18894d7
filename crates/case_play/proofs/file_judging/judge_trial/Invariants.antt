-- The answers before this one hold.
use Rattle.case_play.proofs.Before.{HoldsBefore}
use Rattle.case_play.proofs.FileJudged.{AnswerAt}
use Rattle.case_play.proofs.file_judging.judge_trial.Given as goal

abbrev pub invariant-loop-i : goal.invariant-loop-i
invariant-loop-i l = HoldsBefore (AnswerAt l.case l.trial) l.trial.answers l.i
