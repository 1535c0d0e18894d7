use Rattle.std.proofs.Common.{rules, if◌then◌else◌}
use Rattle.std.proofs.lemmas.Map.Made.{map_same_pairs}
use Rattle.notifier.specs.Observed.{as_closed, is_awaited}
use Rattle.notifier.proofs.entries.close_awaited.Goals as goal

pub returns : goal.returns
returns c =
    map_same_pairs _ (λ o. if is_awaited c.args.server c.args.mid o then as_closed o else o) _
    (λ k v b w g call. search rules) _ _ c.retain.ensures.filtered
