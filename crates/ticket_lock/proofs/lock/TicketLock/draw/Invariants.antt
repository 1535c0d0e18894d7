use Rattle.std.proofs.Common.{◌≡◌}
use Rattle.ticket_lock.proofs.lock.TicketLock.draw.Given as goal

-- a round that draws nothing leaves the seat as it was
abbrev pub invariant-loop : goal.invariant-loop
invariant-loop g l =
    (l.seat.table_id ≡ l.initial.seat.table_id) × (l.seat.id ≡ l.initial.seat.id) × (l.seat.me ≡ l.initial.seat.me)
