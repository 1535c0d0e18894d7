use Rattle.std.proofs.Common.{rules, ◌≡◌, sym, ap, subst, arith}
use Rattle.ticket_lock.specs.Changes.{lower_part, upper_part}
use Rattle.ticket_lock.specs.Names.{IsFaithful}
use Rattle.ticket_lock.proofs.Plays.{splits}
use Rattle.ticket_lock.proofs.Seats.{lower_faithful, upper_faithful}
use Rattle.ticket_lock.proofs.pass.Pass.split.Goals as goal

pub split_seat-above-requires : goal.split_seat-above-requires
split_seat-above-requires g c = let p = c.args.self in let n = p.numbers.1 in let w = p.within.0 in
    (search rules, search rules, splits g.T.Logged.log _ p.seat.id p.seat.me.0 p.at_rest (omega arith))

pub returns-clause-lower : goal.returns-clause-lower
returns-clause-lower g c = let log = g.T.Logged.log in let p = c.args.self in let n = p.numbers.1 in let w =
    p.within.0 in
    let is : c.split_seat-above.new.seat.me.0 ≡ lower_part p.seat.me.0 = ap (λ m. m.0) c.split_seat-above.ensures.2 in (
      record {
        here = search rules;
        faithful =
            subst (IsFaithful log) (sym is) (lower_faithful log p.seat.me.0 (omega arith) c.requires.faithful);
      },
      is,
    )

pub returns-clause-upper : goal.returns-clause-upper
returns-clause-upper g c = let log = g.T.Logged.log in let p = c.args.self in let n = p.numbers.1 in let w =
    p.within.0 in
    let is : c.split_seat-above.result.me.0 ≡ upper_part p.seat.me.0 = ap (λ m. m.0) c.split_seat-above.ensures.4 in (
      record {
        here = search rules;
        faithful =
            subst (IsFaithful log) (sym is) (upper_faithful log p.seat.me.0 (omega arith) c.requires.faithful);
      },
      is,
    )
