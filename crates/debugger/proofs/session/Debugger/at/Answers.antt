use Rattle.debugger.proofs.Keeping.{inside_is, session_is}
use Rattle.debugger.proofs.session.Debugger.at.Goals as goal

pub returns-clause-session : goal.returns-clause-session
returns-clause-session c =
    session_is (inside_is c.args.self.now c.self.inside.replayed c.self.invariant c.self.view_is)
