use Rattle.shared_trace.proofs.Stations.{shared_of}
use Rattle.shared_trace.proofs.trace.Trace.entries.Goals as goal

pub returns-clause-shared : goal.returns-clause-shared
returns-clause-shared c =
    shared_of c.args.self.now c.self.inside.subject.value c.self.inside.entries.held c.self.inside.stations.items
    c.self.inside.posts.items c.self.inside.stops c.self.view_is c.self.invariant.0
