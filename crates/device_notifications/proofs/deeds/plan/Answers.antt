use Rattle.std.proofs.Common.{◌<◌, ◌+◌, arith, length, subst, sym}
use Rattle.lemmas.proofs.Lists.{item_at}
use Rattle.device_notifications.proofs.Planning.{Planned, one_planned}
use Rattle.device_notifications.proofs.deeds.plan.Goals as goal

pub loop-place-preserved : goal.loop-place-preserved
loop-place-preserved c =
    let os = c.args.observations.now.list in
    let n = c.loop-place.place in
    let within : n < length os = omega (arith, c.loop-place-test.true, c.len-place-end.ensures.len) in
    let here = item_at os n within in
    subst (λ deeds. Planned c.args.client.now c.args.clock os deeds c.args.outbox.now c.deed_of.new.outbox (n + 1))
    (sym c.in_ok-push.ensures.items)
    (one_planned c.args.client.now c.args.clock os c.loop-place.deeds.items c.args.outbox.now c.loop-place.outbox
    c.deed_of.new.outbox n here.0 c.in_ok-deed_of.field-0 within here.1 (c.in_ok-deed_of.ensures here.0 here.1)
    c.loop-place.invariant)
