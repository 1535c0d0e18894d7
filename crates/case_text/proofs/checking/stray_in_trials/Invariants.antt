use Rattle.std.proofs.Common.{◌≡◌, drop}
use Rattle.case_text.specs.Checks.{stray_in_trials}
use Rattle.case_text.proofs.checking.stray_in_trials.Given as goal

-- what is left decides
abbrev pub invariant-loop-trial : goal.invariant-loop-trial
invariant-loop-trial l = stray_in_trials (drop l.trial-index l.trials) ≡ stray_in_trials l.trials
