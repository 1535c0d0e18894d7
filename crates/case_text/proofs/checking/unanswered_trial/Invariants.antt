use Rattle.std.proofs.Common.{◌≡◌, drop}
use Rattle.case_text.specs.Checks.{unanswered_trial}
use Rattle.case_text.proofs.checking.unanswered_trial.Given as goal

-- what is left decides
abbrev pub invariant-loop-trial : goal.invariant-loop-trial
invariant-loop-trial l = unanswered_trial (drop l.trial-index l.trials) ≡ unanswered_trial l.trials
