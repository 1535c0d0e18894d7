use Rattle.trace_text.proofs.Parts.{whole}
use Rattle.trace_text.proofs.laws.all_are_selected.Goals as goal

pub returns : goal.returns
returns c = λ s es. whole s 0 es
