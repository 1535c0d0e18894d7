use Rattle.laws_image.proofs.TraceRead.{spelled}
use Rattle.laws_image.proofs.worked.trace_is_spelled.Goals as goal

pub returns : goal.returns
returns c = spelled
