use Rattle.std.proofs.Common.{◌≡◌, ◌<◌, ◌∙◌, Some, ap, arith, length, slice_get}
use Rattle.lemmas.proofs.Lists.{item_at}
use Rattle.lemmas.proofs.Results.{on_err}
use Rattle.device_notifications.proofs.Reaching.{more_said, one_of}
use Rattle.device_notifications.proofs.reach.say_reached.Goals as goal

pub loop-place-preserved : goal.loop-place-preserved
loop-place-preserved c =
    let os = c.args.observations.now.list in
    let n = c.loop-place.place in
    let within : n < length os = omega (arith, c.loop-place-test.true, c.len-place-end.ensures.len) in
    let here = item_at os n within in
    let at : slice_get c.loop-place.observations.list n ≡ Some here.0 =
    ap (λ xs. slice_get xs n) c.loop-place.invariant.0 ∙ here.1 in
    let said = c.in_ok-say_if_reached.ensures.said here.0 at in (
      c.say_if_reached.ensures.list ∙ c.loop-place.invariant.0,
      λ before differ known. more_said c.args.client.now before c.args.paths.now os c.args.observations.now.said
          c.loop-place.observations.said c.say_if_reached.new.observations.said n here.0 here.1 within said differ known
          (c.loop-place.invariant.1 before differ known),
    )

pub returns-in_err-say_if_reached-clause-may_lack_memory : goal.returns-in_err-say_if_reached-clause-may_lack_memory
returns-in_err-say_if_reached-clause-may_lack_memory c =
    let os = c.args.observations.now.list in
    let n = c.loop-place.place in
    let here = item_at os n (omega (arith, c.loop-place-test.true, c.len-place-end.ensures.len)) in
    on_err c.from_residual.result _ (one_of c.args.paths.now os n here.0 here.1
    (c.in_err-say_if_reached.ensures.may_lack_memory here.0
    (ap (λ xs. slice_get xs n) c.loop-place.invariant.0 ∙ here.1)))
