use Rattle.trace_text.proofs.Shown.{second_is}
use Rattle.trace_text.proofs.laws.seconds_are_shown.Goals as goal

pub returns : goal.returns
returns c = second_is
