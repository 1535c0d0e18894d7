use Rattle.std.proofs.Common.{sym}
use Rattle.std.proofs.lemmas.Bool.{ltb-true}
use Rattle.shared_trace.proofs.Stations.{unfinished_is}
use Rattle.shared_trace.proofs.trace.Trace.unfinished.Goals as goal

pub returns-in-Some : goal.returns-in-Some
returns-in-Some c =
    unfinished_is c.args.self.now c.self.inside.subject.value c.self.inside.entries.held c.self.inside.stations.items
    c.self.inside.posts.items c.self.inside.stops c.args.device c.from.result c.deref.result.now
    c.in-Some.station.now c.is_at_end.result
    c.deref.ensures.value c.self.view_is c.self.invariant.0 c.from.ensures
    (ltb-true _ _ (sym c.in-Some.ensures.lookup.0)) c.in-Some.ensures.lookup.1 c.is_at_end.ensures
