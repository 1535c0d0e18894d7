use Rattle.std.proofs.Common.{arith}
use Rattle.coap_codec.proofs.Completeness.{taken_apart}
use Rattle.coap_codec.proofs.reading.option_at.Goals as goal

pub returns-clause-sound : goal.returns-clause-sound
returns-clause-sound c =
    let delta = c.in-Some.ensures in
    let size = c.in-Some-amount_at.ensures in
    taken_apart c.args.number c.args.first c.in-Some.delta c.in-Some-amount_at.length c.args.bytes.now
    c.in-Some.rest.now c.in-Some-amount_at.rest.now
    c.if-high-eq15.false c.if-low-eq15.false delta.wide delta.amount delta.rest
    (omega arith) size.wide size.amount size.rest (omega arith)
