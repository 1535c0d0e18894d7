-- The answers of the trials before this one hold.
use Rattle.case_play.proofs.Before.{HoldsBefore}
use Rattle.case_play.proofs.FileJudged.{TrialAt}
use Rattle.case_play.proofs.file_judging.judge_file.Given as goal

abbrev pub invariant-loop-trial : goal.invariant-loop-trial
invariant-loop-trial l = HoldsBefore (TrialAt l.case) l.case.trials l.trial-index
