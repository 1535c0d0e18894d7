use Rattle.std.proofs.Common.{sym, ap, subst}
use Rattle.std.specs.List.{AllByRecursion, IsDistinct}
use Rattle.std.specs.Map.{keys_of, values_of}
use Rattle.device_machine.specs.Records.{HasOwnKey, is_same_key}
use Rattle.notifier.proofs.Answers.{if_ok}
use Rattle.device_machine.proofs.Keyed.{same_entries}
use Rattle.device_machine.proofs.records.clone_of.Goals as goal

pub returns-clause-values : goal.returns-clause-values
returns-clause-values c =
    if_ok c.clone.result _ _ _ c.clone.ensures.cases
    (λ m h. ap values_of (same_entries c.args.entries.now.entries m.entries h))

pub returns-clause-keyed : goal.returns-clause-keyed
returns-clause-keyed c =
    if_ok c.clone.result _ _ _ c.clone.ensures.cases
    (λ m h. subst (λ es. AllByRecursion HasOwnKey es × IsDistinct is_same_key (keys_of es))
    (sym (same_entries c.args.entries.now.entries m.entries h)) c.requires)
