use Rattle.case_play.proofs.Zeros.{kept_next}
use Rattle.case_play.proofs.written.next.Goals as goal

pub returns-in-Some-clause-some : goal.returns-in-Some-clause-some
returns-in-Some-clause-some c =
    kept_next c.args.zeros c.args.byte c.args.bytes.now c.in-Some.rest.now c.in-Some.ensures.first
