use Rattle.std.proofs.Common.{length, ap, ◌∷◌, [], arith}
use Rattle.std.proofs.lemmas.List.{length-append}
use Rattle.shared_trace.proofs.Starting.{more_parked}
use Rattle.shared_trace.proofs.start.start_stations.Goals as goal

pub loop-device-preserved : goal.loop-device-preserved
loop-device-preserved c = (
  omega (
    arith,
    ap length c.in_ok-push.ensures.items,
    length-append c.loop-device.stations.items (c.in_ok-start_station.field-0 ∷ []),
    c.loop-device.invariant.0,
  ),
  more_parked c.args.scenario.now c.loop-device.stations.items c.push.new.self.items c.in_ok-start_station.field-0
      c.loop-device.device c.loop-device.invariant.1
      c.in_ok-push.ensures.items (omega (arith, c.loop-device.invariant.0))
      c.in_ok-start_station.ensures.station c.in_ok-start_station.ensures.parked,
)
