use Rattle.std.proofs.Common.{rules, ap, ◌∙◌, arith}
use Rattle.ticket_lock.specs.Lock.{is_resting}
use Rattle.ticket_lock.proofs.Plays.{looks, draws}
use Rattle.ticket_lock.proofs.lock.TicketLock.draw.Goals as goal

pub load-ticket-requires : goal.load-ticket-requires
load-ticket-requires g c = (search rules, search rules, looks g.T.Logged.log _ _ _ _)

pub compare_exchange-requires : goal.compare_exchange-requires
compare_exchange-requires g c = let saw = c.load-ticket.ensures.2 in let same =
    saw.other c.if-ticket-eq-LAST.false ∙ c.loop.invariant.2 in let most = saw.most in (
      search rules,
      search rules,
      draws g.T.Logged.log _ _ _ _ c.load-ticket.result (omega arith)
          (ap (λ m. is_resting m.0.stage) same ∙ c.requires.1),
    )
