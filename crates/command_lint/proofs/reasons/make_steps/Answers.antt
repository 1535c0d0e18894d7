use Rattle.std.proofs.Common.{◌≡◌, subst, arith}
use Rattle.fleet_core.specs.Board.{ShowsAfter}
use Rattle.command_lint.proofs.reasons.make_steps.Goals as goal

pub returns : goal.returns
returns c =
    let same : c.loop-place.place ≡ c.args.to = omega
    (arith, c.loop-place-test.false, c.loop-place.auto.place-end c.requires.order) in
    subst (λ k. ShowsAfter c.args.scenario.now c.args.device k c.loop-place.machine) same c.loop-place.invariant
