use Rattle.std.proofs.Common.{position, sym, ap, ◌∙◌}
use Rattle.notifier.specs.Observed.{was_sent, without_reset}
use Rattle.notifier.specs.Said.{Watch, said_without}
use Rattle.notifier.proofs.Places.{first_place}
use Rattle.notifier.proofs.SaidLaws.{filter_none, filter_removed}
use Rattle.notifier.proofs.SaidLaws.{none_first, said_none, said_removed}
use Rattle.notifier.proofs.observations.Observations.reset.Goals as goal

pub loop-place-preserved : goal.loop-place-preserved
loop-place-preserved c =
    let p = was_sent c.args.server c.args.mid in
    let os = c.loop-place.self.list in
    let ss = c.loop-place.self.said in
    let i = c.in-Some.place in
    let is_first = first_place p os i
    (ap (λ (w : Watch). position p w.list) (sym c.self-in-loop-place.view_is) ∙ sym c.place_sent.ensures ∙ c.in-Some.is)
    in (
      ap (λ left. without_reset left c.args.server c.args.mid) c.remove.ensures.list ∙ filter_removed p os i is_first
          ∙ c.loop-place.invariant.0,
      (λ j. said_without p (c.remove.ensures.list j) (c.remove.ensures.said j)) ∙ said_removed p os ss i is_first
          ∙ c.loop-place.invariant.1,
    )

pub returns-clause-left : goal.returns-clause-left
returns-clause-left c =
    let p = was_sent c.args.server c.args.mid in
    let none = none_first p c.loop-place.self.list
    (ap (λ (w : Watch). position p w.list) (sym c.self-in-loop-place.view_is) ∙ sym c.in_default.ensures) in
    sym (filter_none p c.loop-place.self.list none) ∙ c.loop-place.invariant.0

pub returns-clause-said : goal.returns-clause-said
returns-clause-said c =
    let p = was_sent c.args.server c.args.mid in
    let none = none_first p c.loop-place.self.list
    (ap (λ (w : Watch). position p w.list) (sym c.self-in-loop-place.view_is) ∙ sym c.in_default.ensures) in
    sym (said_none p c.loop-place.self.list c.loop-place.self.said none) ∙ c.loop-place.invariant.1
