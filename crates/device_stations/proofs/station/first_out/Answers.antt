use Rattle.std.proofs.Common.{◌≡◌, length, true, refl}
use Rattle.std.proofs.lemmas.Option.{slice_get_read}
use Rattle.device_stations.specs.Stations.{is_parked}
use Rattle.device_stations.proofs.Scans.{scan_more, scan_end}
use Rattle.device_stations.proofs.station.first_out.Goals as goal

pub returns-then-is_out-clause-out : goal.returns-then-is_out-clause-out
returns-then-is_out-clause-out c =
    let found = c.is_out.ensures.out c.if-is_out.true in (
      c.index-stations-device.result,
      found.0,
      slice_get_read c.args.stations.now (length c.args.stations.now) c.loop-device.device
          c.index-stations-device.result refl c.loop-device-test.true c.index-stations-device.is,
      found.1,
    )

pub loop-device-preserved : goal.loop-device-preserved
loop-device-preserved c =
    scan_more (λ x. is_parked x.place ≡ true) c.args.stations.now c.loop-device.device c.index-stations-device.result
    c.loop-device-test.true c.index-stations-device.is
    (c.is_out.ensures.parked c.if-is_out.false) c.loop-device.invariant

pub returns-clause-none : goal.returns-clause-none
returns-clause-none c =
    scan_end (λ x. is_parked x.place ≡ true) c.args.stations.now c.loop-device.device c.loop-device-test.false
    c.loop-device.invariant
