use Rattle.std.proofs.Common.{arith}
use Rattle.device_requests.proofs.PlainReads.{plainly_spelled, read_plainly}
use Rattle.device_requests.proofs.plain.plain_read.Goals as goal

pub returns-in_err-path-clause-found : goal.returns-in_err-path-clause-found
returns-in_err-path-clause-found c = λ m spells kind mid token path live plain.
    let same = c.in-Ok.ensures.message m spells in
    absurd (c.in_err-path.ensures.none path (plainly_spelled _ _ m kind mid token path spells plain same.4))

pub returns-clause-message : goal.returns-clause-message
returns-clause-message c =
    let front = c.in-Ok.ensures in
    read_plainly _ _ _ _ _ _ _ front.parts front.token front.range.1 (omega (arith, c.if-front-ne-GET.false))
    c.in_ok-path.ensures.found
