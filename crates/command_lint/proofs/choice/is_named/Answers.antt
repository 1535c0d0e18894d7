use Rattle.command_lint.proofs.Words.{any_map}
use Rattle.command_lint.proofs.choice.is_named.Goals as goal

pub returns : goal.returns
returns c = rw any_map c.name_it.ensures
