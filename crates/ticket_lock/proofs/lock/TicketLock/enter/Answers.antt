use Rattle.std.proofs.Common.{rules, ap, ◌∙◌}
use Rattle.ticket_lock.proofs.Plays.{enters}
use Rattle.ticket_lock.proofs.lock.TicketLock.enter.Goals as goal

pub compare_exchange-requires : goal.compare_exchange-requires
compare_exchange-requires g c = (
  search rules,
  search rules,
  enters g.T.Logged.log _ _ _ _ c.args.ticket (ap (λ m. m.0.stage) c.loop.invariant.2 ∙ c.requires.1),
)
