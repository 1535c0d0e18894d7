use Rattle.std.proofs.Common.{◌≡◌, length, true, refl, sym, ◌∙◌}
use Rattle.std.proofs.lemmas.Option.{slice_get_read}
use Rattle.device_stations.specs.Stations.{is_end}
use Rattle.device_stations.proofs.Scans.{scan_more, scan_end}
use Rattle.device_stations.proofs.station.first_left.Goals as goal

pub returns-then-not-is_at_end-clause-left : goal.returns-then-not-is_at_end-clause-left
returns-then-not-is_at_end-clause-left c = (
  c.index-stations-device.result,
  slice_get_read c.args.stations.now (length c.args.stations.now) c.loop-device.device
      c.index-stations-device.result refl c.loop-device-test.true c.index-stations-device.is,
  sym c.is_at_end.ensures ∙ c.if-not-is_at_end.true,
)

pub loop-device-preserved : goal.loop-device-preserved
loop-device-preserved c =
    scan_more (λ x. is_end x.next ≡ true) c.args.stations.now c.loop-device.device c.index-stations-device.result
    c.loop-device-test.true c.index-stations-device.is
    (sym c.is_at_end.ensures ∙ c.if-not-is_at_end.false) c.loop-device.invariant

pub returns-clause-none : goal.returns-clause-none
returns-clause-none c =
    scan_end (λ x. is_end x.next ≡ true) c.args.stations.now c.loop-device.device c.loop-device-test.false
    c.loop-device.invariant
