use Rattle.std.proofs.Common.{◌-◌, subst, sym, ◌∙◌}
use Rattle.device_notifications.specs.Outlooks.{outlooks_of}
use Rattle.device_machine.specs.Reactions.{flat_after_seconds}
use Rattle.device_machine.specs.State.{Shows}
use Rattle.notification_reasons.proofs.Spans.{later_last, told_there}
use Rattle.notification_reasons.proofs.ticks.pass.Goals as goal

pub returns-clause-told : goal.returns-clause-told
returns-clause-told c = λ f shows ends rest.
    let there = flat_after_seconds f (c.args.wait - 1) in
    let first = c.in_ok-step.ensures.shows f shows in
    let list = c.observations.ensures.shown there first in
    let known = c.observations.ensures.said there first in
    let same = c.client.ensures.shown there first in (
      c.in_ok-happenings.happenings.items,
      told_there f c.args.wait c.clock.result c.saturating_add-clock.result c.client.result.now
          c.observations.result.now.list c.in_ok-happenings.happenings.items c.requires rest ends
          (c.clock.ensures.shown there first) c.saturating_add-clock.ensures same list
          (c.in_ok-happenings.ensures (known ∙ (λ i. outlooks_of (sym same i) (sym list i)))),
      c.in_ok-append.ensures.items,
    )

pub returns-clause-shows : goal.returns-clause-shows
returns-clause-shows c = λ f shows.
    subst (Shows c.step-2.new.self) (later_last f c.args.wait c.requires)
    (c.in_ok-step-2.ensures.shows (flat_after_seconds f (c.args.wait - 1)) (c.in_ok-step.ensures.shows f shows))
