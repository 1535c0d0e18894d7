use Rattle.std.proofs.Common.{rules, ◌≡◌, ◌<◌, sym, ap, ◌∙◌, subst, arith, true}
use Rattle.lemmas.proofs.Lists.{empty_from_length}
use Rattle.ticket_lock.specs.Log.{Begins, entries_of_worker}
use Rattle.ticket_lock.specs.Lock.{is_live}
use Rattle.ticket_lock.specs.Names.{IsFaithful}
use Rattle.ticket_lock.proofs.Logs.{both_begin}
use Rattle.ticket_lock.proofs.Plays.{looks, joins}
use Rattle.ticket_lock.proofs.Seats.{looked_view, looked_end, aware_faithful, joined_lower, joined_upper}
use Rattle.ticket_lock.proofs.pass.Pass.join.Goals as goal

pub join_seat-requires : goal.join_seat-requires
join_seat-requires g c = let p = c.args.self in let q = c.args.other in (
  search rules,
  search rules,
  empty_from_length q.seat.me.1 q.bare,
  search rules,
  joins g.T.Logged.log _ p.seat.id p.seat.me.0 q.seat.id q.seat.me.0 p.at_rest q.at_rest c.requires.neighbours,
)

pub load-requires : goal.load-requires
load-requires g c = (search rules, search rules, looks g.T.Logged.log _ _ _ _)

pub returns-clause-joined : goal.returns-clause-joined
returns-clause-joined g c =
    let m = c.join_seat.new.seat.me in let n = c.load.new.seat.me in
    looked_view g.T.Logged.log _ m n c.load.result c.load.ensures.2
    ∙ ap (λ z. record z.0 { end = n.0.end }) c.join_seat.ensures.2

pub returns-clause-end : goal.returns-clause-end
returns-clause-end g c = λ e.
    looked_end g.T.Logged.log _ c.join_seat.new.seat.me c.load.new.seat.me c.load.result c.load.ensures.2
    (ap (λ z. z.0.end) c.join_seat.ensures.2 ∙ e)

pub returns-clause-fronts : goal.returns-clause-fronts
returns-clause-fronts g c =
    let v = c.args.self.seat.me.0 in let w = c.args.other.seat.me.0 in
    let both = both_begin v.front w.front (subst
    (λ z. Begins z.0.earlier z.0.front) c.join_seat.ensures.2 c.load.ensures.2.earlier) in
    let is = ap (λ u. u.front) (returns-clause-joined g c) in
    (subst (Begins v.front) (sym is) both.0, subst (Begins w.front) (sym is) both.1)

pub returns-clause-own : goal.returns-clause-own
returns-clause-own g c = let log = g.T.Logged.log in let m = c.join_seat.new.seat.me.0 in
    let live : is_live m.stage ≡ true = ap (λ n. is_live n.0.stage) c.join_seat.ensures.2 in
    let knows = c.load.ensures.2.aware live in
    let is = looked_view log _ c.join_seat.new.seat.me c.load.new.seat.me c.load.result c.load.ensures.2 in
    record { here = search rules; faithful = subst (IsFaithful log) (sym is) (aware_faithful log knows.0 m knows.1) }

pub returns-clause-lower : goal.returns-clause-lower
returns-clause-lower g c = let log = g.T.Logged.log in let v = c.args.self.seat.me.0 in let w =
    c.args.other.seat.me.0 in let is = returns-clause-joined g c in λ n h.
    subst (λ u. entries_of_worker log n u.front ≡ entries_of_worker log n v.front) (sym is)
    (joined_lower log v w (omega arith) c.requires.neighbours c.requires.this.faithful c.requires.other.faithful
    (subst (IsFaithful log) is (returns-clause-own g c).faithful) n h)

pub returns-clause-upper : goal.returns-clause-upper
returns-clause-upper g c = let log = g.T.Logged.log in let v = c.args.self.seat.me.0 in let w =
    c.args.other.seat.me.0 in let is = returns-clause-joined g c in λ n h.
    subst (λ u. entries_of_worker log n u.front ≡ entries_of_worker log n w.front) (sym is)
    (joined_upper log v w (omega arith) c.requires.neighbours c.requires.this.faithful c.requires.other.faithful
    (subst (IsFaithful log) is (returns-clause-own g c).faithful) n h)
