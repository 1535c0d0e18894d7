use Rattle.std.proofs.Common.{length, refl}
use Rattle.std.proofs.lemmas.Option.{slice_get_read}
use Rattle.device_stations.proofs.station.any_out.Goals as goal

pub returns-then-is_out-clause-out : goal.returns-then-is_out-clause-out
returns-then-is_out-clause-out c =
    let found = c.is_out.ensures.out c.if-is_out.true in (
      c.index-stations-device.result,
      found.0,
      slice_get_read c.args.stations.now (length c.args.stations.now) c.loop-device.device
          c.index-stations-device.result refl c.loop-device-test.true c.index-stations-device.is,
      found.1,
    )
