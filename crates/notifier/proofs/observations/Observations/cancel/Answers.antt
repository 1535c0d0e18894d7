use Rattle.std.proofs.Common.{◌||◌, position, sym, ap, ◌∙◌}
use Rattle.std.proofs.Math.Bool.{or-true, or-false}
use Rattle.notifier.specs.Observed.{is_named, without_cancelled}
use Rattle.notifier.specs.Said.{Watch, said_without}
use Rattle.notifier.proofs.Places.{any_first, first_place}
use Rattle.notifier.proofs.SaidLaws.{filter_none, filter_removed, none_first, said_none}
use Rattle.notifier.proofs.SaidLaws.{said_removed}
use Rattle.notifier.proofs.observations.Observations.cancel.Goals as goal

pub loop-place-preserved : goal.loop-place-preserved
loop-place-preserved c =
    let p = is_named c.args.server c.args.token.now in
    let os = c.loop-place.self.list in
    let ss = c.loop-place.self.said in
    let i = c.in-Some.place in
    let is_first = first_place p os i
    (ap (λ (w : Watch). position p w.list) (sym c.self.view_is) ∙ sym c.place_of.ensures ∙ c.in-Some.is) in (
      ap (λ left. without_cancelled left c.args.server c.args.token.now) c.remove.ensures.list
          ∙ filter_removed p os i is_first
          ∙ c.loop-place.invariant.0,
      (λ j. said_without p (c.remove.ensures.list j) (c.remove.ensures.said j)) ∙ said_removed p os ss i is_first
          ∙ c.loop-place.invariant.1,
      c.loop-place.invariant.2 ∙ ap (λ b. c.loop-place.held || b) (any_first p os i is_first)
          ∙ or-true c.loop-place.held,
    )

pub returns-clause-answer : goal.returns-clause-answer
returns-clause-answer c =
    let p = is_named c.args.server c.args.token.now in
    let none = none_first p c.loop-place.self.list
    (ap (λ (w : Watch). position p w.list) (sym c.self.view_is) ∙ sym c.in_default.ensures) in
    sym (c.loop-place.invariant.2 ∙ ap (λ b. c.loop-place.held || b) none ∙ or-false c.loop-place.held)

pub returns-clause-left : goal.returns-clause-left
returns-clause-left c =
    let p = is_named c.args.server c.args.token.now in
    let none = none_first p c.loop-place.self.list
    (ap (λ (w : Watch). position p w.list) (sym c.self.view_is) ∙ sym c.in_default.ensures) in
    sym (filter_none p c.loop-place.self.list none) ∙ c.loop-place.invariant.0

pub returns-clause-said : goal.returns-clause-said
returns-clause-said c =
    let p = is_named c.args.server c.args.token.now in
    let none = none_first p c.loop-place.self.list
    (ap (λ (w : Watch). position p w.list) (sym c.self.view_is) ∙ sym c.in_default.ensures) in
    sym (said_none p c.loop-place.self.list c.loop-place.self.said none) ∙ c.loop-place.invariant.1
