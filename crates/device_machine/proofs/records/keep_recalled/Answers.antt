use Rattle.std.proofs.Common.{◌≡◌, filter, ap, subst, sym, ◌∙◌, rules}
use Rattle.std.specs.List.{AllByRecursion}
use Rattle.std.specs.Map.{values_of}
use Rattle.indexmap.proofs.CallerLemmas.{filter-RetainsPairs}
use Rattle.lemmas.proofs.Lists.{each_filtered}
use Rattle.notifier.proofs.ObservedLaws.{values-filter}
use Rattle.device_machine.specs.Records.{HasOwnKey, is_recalled}
use Rattle.device_machine.proofs.records.keep_recalled.Goals as goal

kept : (c : goal.After-retain)
    → c.retain.new.self.entries ≡ filter (λ e. is_recalled c.args.ended e.1) c.args.entries.now.entries
kept c = filter-RetainsPairs _ _ _ (λ k v b w g call. search rules) _ _ c.retain.ensures.filtered

pub returns-clause-recalled : goal.returns-clause-recalled
returns-clause-recalled c =
    ap values_of (kept c) ∙ values-filter (λ r. is_recalled c.args.ended r) c.args.entries.now.entries

pub returns-clause-keyed : goal.returns-clause-keyed
returns-clause-keyed c = (
  subst (AllByRecursion HasOwnKey) (sym (kept c)) (each_filtered HasOwnKey _ _ c.requires.0),
  c.retain.ensures.unique,
)
