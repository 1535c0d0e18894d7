use Rattle.std.proofs.Common.{◌+◌, sym, refl, ap, subst, ◌∙◌, take}
use Rattle.notification_reasons.specs.Happenings.{AreHappenings}
use Rattle.notification_reasons.proofs.Spans.{next_does, next_rests}
use Rattle.notification_reasons.proofs.ticks.second_happenings.Goals as goal
use Rattle.notification_reasons.proofs.ticks.second_happenings.Goals.{in-Some-turn_reason+in_ok-push-in-Some-turn_reason, in-None}

pub loop-place-preserved : goal.loop-place-preserved
loop-place-preserved c = λ known.
    let client = c.args.client.now in
    let os = c.args.observations.now.list in
    let i = c.loop-place.place in
    let o = c.in-Some.observation.now in
    let at = sym c.in-Some.ensures.value in
    let so_far = c.loop-place.invariant known in
    elim c.match-turn_reason.branch [
      | in-Some-turn_reason+in_ok-push-in-Some-turn_reason w ↦
          subst (AreHappenings client c.args.clock (take (i + 1) os))
          (sym (ap (λ v. v.items) w.happenings-is ∙ w.in_ok-push-in-Some-turn_reason.ensures.items))
          (next_does client c.args.clock os i o c.loop-place.happenings.items
          (record { path = o.path; second = c.args.clock; reason = w.in-Some-turn_reason.reason }) at so_far
          (record { path = refl; second_is = refl; why = w.in-Some-turn_reason.ensures known o at }))
      | in-None w ↦
          subst (AreHappenings client c.args.clock (take (i + 1) os)) (sym (ap (λ v. v.items) w.happenings-is))
          (next_rests client c.args.clock os i o c.loop-place.happenings.items at so_far
          (w.in-None.ensures known o at))
    ]
