use Rattle.std.proofs.Common.{◌≡◌, slice_get, slice_index, false, sym, subst, ◌∙◌}
use Rattle.std.proofs.lemmas.Bool.{ltb-true}
use Rattle.device_stations.specs.Stations.{is_ready}
use Rattle.device_stations.proofs.Scans.{same_some}
use Rattle.device_stations.proofs.Scans.{found_at}
use Rattle.device_stations.proofs.station.is_ready_at.Goals as goal

pub returns-in-Some-clause-ready : goal.returns-in-Some-clause-ready
returns-in-Some-clause-ready c = λ is. (
  c.in-Some.station.now,
  found_at c.args.stations.now c.from.result c.args.device c.in-Some.station.now c.from.ensures
      (ltb-true _ _ (sym c.in-Some.ensures.lookup.0)) c.in-Some.ensures.lookup.1,
  sym c.is_ready.ensures ∙ is,
)

pub returns-in-Some-clause-not : goal.returns-in-Some-clause-not
returns-in-Some-clause-not c = λ is x at.
    subst (λ y. is_ready (λ g. slice_index c.args.posts.now g) y ≡ false)
    (same_some (slice_get c.args.stations.now c.args.device) c.in-Some.station.now x
    (found_at c.args.stations.now c.from.result c.args.device c.in-Some.station.now c.from.ensures
    (ltb-true _ _ (sym c.in-Some.ensures.lookup.0)) c.in-Some.ensures.lookup.1) at)
    (sym c.is_ready.ensures ∙ is)
