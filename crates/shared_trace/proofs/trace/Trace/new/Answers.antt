use Rattle.std.proofs.Common.{replicate, sym, subst}
use Rattle.shared_trace.specs.declared.stops.Stops.{Never}
use Rattle.shared_trace.specs.Kept.{IsRosterOf}
use Rattle.shared_trace.proofs.Starting.{start_trace, all_parked}
use Rattle.shared_trace.proofs.Stations.{shared_is}
use Rattle.shared_trace.proofs.Ended.{none_ended}
use Rattle.shared_trace.proofs.trace.Trace.new.Goals as goal

pub invariant_of-result : goal.invariant_of-result
invariant_of-result c = (
  start_trace c.args.scenario.now c.of.result.value c.in_ok-entries.entries.held c.in_ok-stations.stations.items
      c.in_ok-posts.posts.items c.table_length-places.result c.table_length-places.ensures.valid
      c.of.ensures c.in_ok-entries.ensures c.in_ok-stations.ensures.count c.in_ok-stations.ensures.parked
      c.table_length-places.ensures.places (c.in_ok-posts.ensures.items_if_clones_equal (λ y e. e)),
  none_ended c.in_ok-stations.stations.items,
  subst (λ l. IsRosterOf l c.in_ok-stations.stations.items c.in_ok-roster.roster)
      (sym (c.in_ok-posts.ensures.items_if_clones_equal (λ y e. e)))
      (subst (λ l. IsRosterOf (replicate c.table_length-places.result 0) l c.in_ok-roster.roster)
      c.as_slice.ensures.value c.in_ok-roster.ensures),
)

pub returns-clause-parked : goal.returns-clause-parked
returns-clause-parked c = all_parked c.args.scenario.now c.in_ok-stations.stations.items c.in_ok-stations.ensures.parked

pub returns-clause-shared : goal.returns-clause-shared
returns-clause-shared c = shared_is _ _ _ _ Never (invariant_of-result c).0
