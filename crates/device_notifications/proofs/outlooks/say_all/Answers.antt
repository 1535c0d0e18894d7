use Rattle.std.proofs.Common.{◌≡◌, ◌<◌, ◌∙◌, Some, ap, arith, length, slice_get}
use Rattle.lemmas.proofs.Lists.{item_at}
use Rattle.device_notifications.proofs.Places.{length-placed}
use Rattle.device_notifications.proofs.Planning.{said_more}
use Rattle.device_notifications.specs.Outlooks.{outlook_of}
use Rattle.device_notifications.proofs.outlooks.say_all.Goals as goal

pub loop-place-preserved : goal.loop-place-preserved
loop-place-preserved c =
    let client = c.args.client.now in
    let os = c.args.observations.now.list in
    let ss = c.loop-place.observations.said in
    let n = c.loop-place.place in
    let within : n < length os = omega (arith, c.loop-place-test.true, c.len-place-end.ensures.len) in
    let here = item_at os n within in
    let said_here = item_at ss n (omega (arith, within, c.loop-place.invariant.2)) in
    let at : slice_get c.loop-place.observations.list n ≡ Some here.0 =
    ap (λ xs. slice_get xs n) c.loop-place.invariant.0 ∙ here.1 in
    let said = c.in_ok-say.ensures.said here.0 at in (
      c.say.ensures.list ∙ c.loop-place.invariant.0,
      said_more client os ss c.say.new.observations.said n here.0 said_here.0 here.1 said_here.1
          c.loop-place.invariant.1 said,
      ap length said ∙ length-placed ss n (outlook_of client here.0) ∙ c.loop-place.invariant.2,
    )
