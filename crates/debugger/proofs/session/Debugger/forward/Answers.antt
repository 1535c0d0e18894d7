use Rattle.std.proofs.Common.{◌+◌, arith}
use Rattle.debugger.proofs.Keeping.{inside_is, moved_by, forward_few, forward_steps}
use Rattle.debugger.proofs.session.Debugger.forward.Goals as goal

pub returns-clause-moved : goal.returns-clause-moved
returns-clause-moved c =
    moved_by c.go.new.self _ c.in_ok-steps.steps (λ n. n + c.args.count)
    (inside_is c.args.self.now c.self.inside.replayed c.self.invariant c.self.view_is)
    c.in_ok-steps.ensures.moved c.self-2.view_is

pub returns-clause-replayed : goal.returns-clause-replayed
returns-clause-replayed c =
    forward_steps c.args.count c.in_ok-steps.steps
    (inside_is c.args.self.now c.self.inside.replayed c.self.invariant c.self.view_is)
    (omega (arith, c.if-count-left.false)) c.in_ok-steps.ensures.steps

pub returns-clause-few : goal.returns-clause-few
returns-clause-few c =
    forward_few c.args.self.now c.in_ok-steps.steps c.args.count
    (forward_steps c.args.count c.in_ok-steps.steps
    (inside_is c.args.self.now c.self.inside.replayed c.self.invariant c.self.view_is)
    (omega (arith, c.if-count-left.false)) c.in_ok-steps.ensures.steps)
