use Rattle.std.proofs.Common.{rules, arith}
use Rattle.ticket_lock.proofs.Aware.{own_of_front}
use Rattle.ticket_lock.proofs.Seats.{first_slot, lowest_work-aware}
use Rattle.ticket_lock.proofs.lock.TicketLock.take.Goals as goal

pub exchange-requires : goal.exchange-requires
exchange-requires g c = (search rules, first_slot _ _ _ _ _ c.enter.ensures.inside.2)

pub returns-clause-value : goal.returns-clause-value
returns-clause-value g c = search rules

pub returns-clause-own : goal.returns-clause-own
returns-clause-own g c = let a =
    returns-clause-value g c in λ w h. own_of_front g.T.Logged.log _ c.args.pass.seat.me.0 w h.0 h.1 a

pub returns-clause-work : goal.returns-clause-work
returns-clause-work g c = let a = returns-clause-value g c in let n = c.args.pass.numbers.1 in let w =
    c.args.pass.within.0 in λ d. lowest_work-aware g.T.Logged.log _ c.args.pass.seat.me.0 d (omega arith) a
