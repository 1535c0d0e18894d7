use Rattle.std.proofs.Common.{rules}
use Rattle.notifier.proofs.Retained.{filter_retained}
use Rattle.notifier.proofs.attributes.keep_elsewhere.Goals as goal

pub returns : goal.returns
returns c = filter_retained _ _ _ (λ k v b w g call. search rules) _ _ c.retain.ensures.filtered
