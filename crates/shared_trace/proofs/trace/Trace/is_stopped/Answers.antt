use Rattle.shared_trace.proofs.Stations.{shared_of}
use Rattle.shared_trace.proofs.trace.Trace.is_stopped.Goals as goal

pub returns-in-Never-clause-shared : goal.returns-in-Never-clause-shared
returns-in-Never-clause-shared c =
    shared_of c.args.self.now c.self.inside.subject.value c.self.inside.entries.held c.self.inside.stations.items
    c.self.inside.posts.items c.self.inside.stops c.self.view_is c.self.invariant.0

pub returns-in-By-clause-shared : goal.returns-in-By-clause-shared
returns-in-By-clause-shared c =
    shared_of c.args.self.now c.self.inside.subject.value c.self.inside.entries.held c.self.inside.stations.items
    c.self.inside.posts.items c.self.inside.stops c.self.view_is c.self.invariant.0
