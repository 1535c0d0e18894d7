use Rattle.trace_text.proofs.Shown.{follows}
use Rattle.trace_text.proofs.laws.runs_have_steps.Goals as goal

pub returns : goal.returns
returns c = follows
