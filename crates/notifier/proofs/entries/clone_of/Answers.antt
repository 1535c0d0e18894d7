use Rattle.std.proofs.Common.{ap, subst, sym}
use Rattle.std.specs.List.{AllByRecursion}
use Rattle.std.specs.Map.{values_of}
use Rattle.notifier.specs.Observed.{IsKeyed}
use Rattle.notifier.proofs.Answers.{if_ok}
use Rattle.notifier.proofs.Clones.{same_entries}
use Rattle.notifier.proofs.entries.clone_of.Goals as goal

pub returns-clause-values : goal.returns-clause-values
returns-clause-values c =
    if_ok c.clone.result _ _ _ c.clone.ensures.cases
    (λ m h. ap values_of (same_entries c.args.entries.now.entries m.entries h))

pub returns-clause-keyed : goal.returns-clause-keyed
returns-clause-keyed c =
    if_ok c.clone.result _ _ _ c.clone.ensures.cases
    (λ m h. subst (AllByRecursion IsKeyed) (sym (same_entries c.args.entries.now.entries m.entries h)) c.requires)
