use Rattle.std.proofs.Common.{ap, arith, is_some}
use Rattle.debugger.proofs.Copying.{has_next, more_copies, next_row, same_copies}
use Rattle.debugger.proofs.copies.take_entry.Goals as goal

pub returns-then-entry-clause-copied : goal.returns-then-entry-clause-copied
returns-then-entry-clause-copied c = λ so.
    let next = has_next c.args.replay.now c.take.new.self c.args.entry.now c.args.copies.now.items _
    c.requires.copied c.in_ok-fits.ensures.replays so in
    same_copies _ _ _ _ _ next c.if-entry.true

pub index_mut-own-requires : goal.index_mut-own-requires
index_mut-own-requires c =
    let next = has_next c.args.replay.now c.take_copied.new.self c.args.entry.now c.args.copies.now.items _
    c.requires.copied c.in_ok-take_copied.ensures.replays (ap is_some c.in-Some.is) in
    omega (arith, next_row _ _ _ _ _ next, c.from.ensures, c.args.copies.now.ok.0)

pub returns-in_ok-push-in-Some-clause-copied : goal.returns-in_ok-push-in-Some-clause-copied
returns-in_ok-push-in-Some-clause-copied c = λ _.
    let next = has_next c.args.replay.now c.take_copied.new.self c.args.entry.now c.args.copies.now.items _
    c.requires.copied c.in_ok-take_copied.ensures.replays (ap is_some c.in-Some.is) in
    more_copies _ _ _ _ _ c.from.result c.index_mut-own.result.now (record { devices = c.push.new.self })
    c.in-Some.copy next c.if-entry.false c.from.ensures c.index_mut-own.ensures.value
    (c.in_ok-take_copied.ensures.copied c.in-Some.copy c.in-Some.is) c.in_ok-push-in-Some.ensures.items
