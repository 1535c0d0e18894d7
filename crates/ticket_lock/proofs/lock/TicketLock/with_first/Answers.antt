use Rattle.std.proofs.Common.{rules, ◌≡◌, ◌*◌, List, [], ◌∷◌, Some, sym, ap, ◌∙◌, subst}
use Rattle.atomic_table.specs.Table.{opening}
use Rattle.ticket_lock.specs.declared.rule.TheConstants.{NUMBERS}
use Rattle.ticket_lock.specs.Lock.{Fits}
use Rattle.ticket_lock.specs.Changes.{opening_view}
use Rattle.ticket_lock.specs.Names.{IsFaithful}
use Rattle.ticket_lock.proofs.Runs.{made_fits}
use Rattle.ticket_lock.proofs.Seats.{map-shares}
use Rattle.ticket_lock.proofs.lock.TicketLock.with_first.Goals as goal

pub new-requires : goal.new-requires
new-requires g c = let log = g.T.Logged.log in let x = c.of.result.value in let first = c.args.ticket in
    let pushed : c.push.new.self.items ≡ Some c.args.value ∷ [] = search rules in
    subst (λ slots. Fits log (x, first) (opening (first ∷ 2 * first ∷ []) slots (opening_view log x first)))
    (ap (λ y. Some y ∷ []) c.of.ensures ∙ sym pushed)
    (made_fits log first x c.requires)

pub returns-clause-pass : goal.returns-clause-pass
returns-clause-pass g c = let log = g.T.Logged.log in let made = c.in-Ok.ensures.ok in
    let same : c.in-Ok.seat.me.0 ≡ opening_view log c.args.value c.args.ticket =
    ap (λ m. m.0) made.4 ∙ ap (λ x. opening_view log x c.args.ticket) c.of.ensures in (
      record { here = made.2; faithful = subst (IsFaithful log) (sym same) (map-shares log c.args.value 1 NUMBERS) },
      same,
    )
