use Rattle.std.proofs.Common.{sym, subst}
use Rattle.debugger.specs.Moves.{IsMoved}
use Rattle.debugger.proofs.Replaying.{on_between, back_between}
use Rattle.debugger.proofs.moves.moved_device.Goals as goal

pub returns-then-from-to : goal.returns-then-from-to
returns-then-from-to c =
    subst (λ n. IsMoved c.args.scenario.now c.args.device c.args.to n c.in_ok-later.later)
    (sym (on_between c.args.scenario.now c.args.device c.args.from c.args.to c.if-from-to.true)) c.in_ok-later.ensures

pub returns : goal.returns
returns c =
    subst (λ n. IsMoved c.args.scenario.now c.args.device c.args.to n c.in_ok-earlier.earlier)
    (sym (back_between c.args.scenario.now c.args.device c.args.from c.args.to c.if-from-to.false))
    c.in_ok-earlier.ensures
