use Rattle.std.proofs.Common.{rules, ◌≡◌, sym, subst, arith}
use Rattle.ticket_lock.specs.Log.{entries_of_worker}
use Rattle.ticket_lock.specs.Names.{IsFaithful, held_as_found, lowest_work}
use Rattle.ticket_lock.proofs.Aware.{own_added}
use Rattle.ticket_lock.proofs.Plays.{leaves_from}
use Rattle.ticket_lock.proofs.Seats.{map-shares, first_work}
use Rattle.ticket_lock.proofs.held.Held.give.Goals as goal

pub store-requires : goal.store-requires
store-requires g c = let h = c.args.self in (
  search rules,
  search rules,
  leaves_from g.T.Logged.log h.seat.me c.exchange.new.seat.me h.value h.holds c.exchange.ensures.left _ _ _ h.ticket
      h.inside.0 h.inside.1 c.requires,
)

pub returns-clause-given : goal.returns-clause-given
returns-clause-given g c = search rules

pub returns-clause-own : goal.returns-clause-own
returns-clause-own g c = let log = g.T.Logged.log in let h = c.args.self in record {
  here = search rules;
  faithful = subst (IsFaithful log) (sym (returns-clause-given g c))
      (map-shares log h.value h.seat.me.0.low h.seat.me.0.count);
}

pub returns-clause-others : goal.returns-clause-others
returns-clause-others g c = let log = g.T.Logged.log in let h = c.args.self in λ w ne.
    subst (λ v. entries_of_worker log w v.front ≡ entries_of_worker log w (log.entries (held_as_found h)))
    (sym (returns-clause-given g c))
    (own_added log (held_as_found h) h.value h.seat.me.0.low w c.requires ne)

pub returns-clause-work : goal.returns-clause-work
returns-clause-work g c = let log = g.T.Logged.log in let h = c.args.self in let n = h.numbers.1 in let w =
    h.within.0 in λ d.
    subst (λ v. lowest_work v d ≡ log.work h.value h.seat.me.0.low) (sym (returns-clause-given g c))
    (first_work log h.value h.seat.me.0.low h.seat.me.0.count d (omega arith))
