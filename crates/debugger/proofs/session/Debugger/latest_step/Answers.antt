use Rattle.debugger.proofs.Keeping.{got_at, inside_is}
use Rattle.debugger.proofs.Preceding.{made_steps}
use Rattle.debugger.proofs.session.Debugger.latest_step.Goals as goal

pub latest_step-requires-clause-row : goal.latest_step-requires-clause-row
latest_step-requires-clause-row c =
    made_steps c.args.device c.in-Some.made.now
    (inside_is c.args.self.now c.self.inside.replayed c.self.invariant c.self.view_is)
    (got_at c.self.inside.made.items c.deref.result.now c.from.result c.args.device c.in-Some.made.now
    c.deref.ensures.value c.from.ensures c.in-Some.ensures.lookup.0 c.in-Some.ensures.lookup.1)
