use Rattle.std.proofs.Common.{rules}
use Rattle.std.proofs.lemmas.Map.Entries.{entries_from_clone}
use Rattle.notifier.proofs.Answers.{if_ok}
use Rattle.notifier.proofs.attributes.clone_of.Goals as goal

pub returns : goal.returns
returns c = if_ok c.clone.result _ _ _ c.clone.ensures.cases
    (λ m h. entries_from_clone _ _ (λ a b k. search rules) (λ a b k. search rules) _ _ h)
