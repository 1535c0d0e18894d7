use Rattle.std.proofs.Common.{◌≡◌, ap, subst, arith, ◌∙◌}
use Rattle.fleet_core.specs.Board.{ShowsAfter}
use Rattle.debugger.specs.Replayed.{events_by}
use Rattle.debugger.proofs.steps.advance.Goals as goal

pub returns-clause-shows : goal.returns-clause-shows
returns-clause-shows c =
    let same : c.loop-place.place ≡ c.args.to = omega
    (arith, c.loop-place-test.false, c.loop-place.auto.place-end c.requires.order) in
    subst (λ k. ShowsAfter c.args.scenario.now c.args.device k c.loop-place.machine) same c.loop-place.invariant.shows

pub returns-clause-count : goal.returns-clause-count
returns-clause-count c =
    let same : c.loop-place.place ≡ c.args.to = omega
    (arith, c.loop-place-test.false, c.loop-place.auto.place-end c.requires.order) in
    c.loop-place.invariant.count ∙ ap (events_by c.args.scenario.now c.args.device) same
