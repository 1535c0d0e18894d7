use Rattle.trace_text.proofs.Bytes.{shown}
use Rattle.trace_text.proofs.laws.arrivals_have_bytes.Goals as goal

pub returns : goal.returns
returns c = shown
