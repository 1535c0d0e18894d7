use Rattle.std.proofs.Common.{◌∙◌, ap, length, sym, true≢false}
use Rattle.lemmas.proofs.Results.{on_err}
use Rattle.notifier.proofs.AttributeLaws.{none_left}
use Rattle.notifier.proofs.attributes.Attributes.copy.Goals as goal

pub returns-in_err-clone_of-clause-may_lack_memory : goal.returns-in_err-clone_of-clause-may_lack_memory
returns-in_err-clone_of-clause-may_lack_memory c =
    on_err c.from_residual.result _
    (λ none. true≢false (sym (c.is_empty.ensures.1
    (ap length (none_left c.self.inside.numbers.entries (c.self.view_is ∙ none)))) ∙ c.if-is_empty.false))
