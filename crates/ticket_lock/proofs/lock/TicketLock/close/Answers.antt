use Rattle.std.proofs.Common.{arith}
use Rattle.ticket_lock.proofs.Crowds.{closed_some, closed_as}
use Rattle.ticket_lock.proofs.lock.TicketLock.close.Goals as goal

pub unreachable-requires : goal.unreachable-requires
unreachable-requires g c = let p = c.args.pass in
    closed_some g.T.Logged.log _ p.seat.id p.seat.me.0 _ _ c.close_with-closed.ensures.values.2 p.at_rest
    (omega arith) c.take.result c.take.ensures.value c.in_default.is

pub returns-clause-entries : goal.returns-clause-entries
returns-clause-entries g c = let p = c.args.pass in
    (closed_as g.T.Logged.log _ p.seat.id p.seat.me.0 _ _ c.close_with-closed.ensures.values.2 p.at_rest
    (omega arith) c.take.result c.take.ensures.value c.in-Some.value c.in-Some.is).entries

pub returns-clause-subject : goal.returns-clause-subject
returns-clause-subject g c = let p = c.args.pass in
    (closed_as g.T.Logged.log _ p.seat.id p.seat.me.0 _ _ c.close_with-closed.ensures.values.2 p.at_rest
    (omega arith) c.take.result c.take.ensures.value c.in-Some.value c.in-Some.is).subject

pub returns-clause-work : goal.returns-clause-work
returns-clause-work g c = let p = c.args.pass in
    (closed_as g.T.Logged.log _ p.seat.id p.seat.me.0 _ _ c.close_with-closed.ensures.values.2 p.at_rest
    (omega arith) c.take.result c.take.ensures.value c.in-Some.value c.in-Some.is).shares
