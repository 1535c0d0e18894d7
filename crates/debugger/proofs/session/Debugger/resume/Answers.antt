use Rattle.debugger.proofs.Stopping.{stop_moved, moved_there}
use Rattle.debugger.proofs.session.Debugger.resume.Goals as goal

pub returns-clause-stop : goal.returns-clause-stop
returns-clause-stop c = stop_moved c.args.self.now c.go.new.self c.in_ok-next.next.stop c.in_ok-next.next.place
    c.in_ok-next.ensures.stop c.in_ok-_steps.ensures.moved

pub returns-clause-moved : goal.returns-clause-moved
returns-clause-moved c = moved_there c.args.self.now c.go.new.self c.in_ok-next.next.place
    c.in_ok-_steps.ensures.moved
