use Rattle.std.proofs.Common.{◌∷◌, ap, ◌∙◌}
use Rattle.shared_trace.specs.Stops.{numbers_in}
use Rattle.shared_trace.specs.Trace.{stopped_under}
use Rattle.shared_trace.specs.Kept.{places_of}
use Rattle.shared_trace.proofs.Stations.{shared_of}
use Rattle.shared_trace.proofs.Stopping.{stop_adds, stop_shared}
use Rattle.shared_trace.proofs.trace.Trace.stop.Goals as goal

pub returns-clause-stopped : goal.returns-clause-stopped
returns-clause-stopped c =
    ap (λ l. record {
      subject = c.self.inside.subject.value;
      entries = c.self.inside.entries.held;
      places = places_of c.self.inside.stations.items;
      stopped_by = c.args.worker ∷ numbers_in l;
    }) c.of.ensures
    ∙ ap (λ t. stopped_under t c.args.worker) c.self.view_is

pub returns-clause-adds : goal.returns-clause-adds
returns-clause-adds c = stop_adds c.args.self.now _ c.args.worker (returns-clause-stopped c)

pub returns-clause-shared : goal.returns-clause-shared
returns-clause-shared c =
    stop_shared c.args.self.now _ c.args.worker (returns-clause-stopped c)
    (shared_of c.args.self.now c.self.inside.subject.value c.self.inside.entries.held c.self.inside.stations.items
    c.self.inside.posts.items c.self.inside.stops c.self.view_is c.self.invariant.0)
