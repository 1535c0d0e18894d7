use Rattle.std.proofs.Common.{◌≡◌, length, false, refl, sym, ◌∙◌, slice_index}
use Rattle.std.proofs.lemmas.Option.{slice_get_read}
use Rattle.device_stations.specs.Stations.{is_ready}
use Rattle.device_stations.proofs.Scans.{scan_more, scan_end}
use Rattle.device_stations.proofs.station.lowest_ready.Goals as goal

pub returns-then-is_ready-clause-ready : goal.returns-then-is_ready-clause-ready
returns-then-is_ready-clause-ready c = (
  c.index-stations-device.result,
  slice_get_read c.args.stations.now (length c.args.stations.now) c.loop-device.device
      c.index-stations-device.result refl c.loop-device-test.true c.index-stations-device.is,
  sym c.is_ready.ensures ∙ c.if-is_ready.true,
)

pub loop-device-preserved : goal.loop-device-preserved
loop-device-preserved c =
    scan_more (λ x. is_ready (λ g. slice_index c.args.posts.now g) x ≡ false) c.args.stations.now c.loop-device.device
    c.index-stations-device.result c.loop-device-test.true c.index-stations-device.is
    (sym c.is_ready.ensures ∙ c.if-is_ready.false) c.loop-device.invariant

pub returns-clause-none : goal.returns-clause-none
returns-clause-none c =
    scan_end (λ x. is_ready (λ g. slice_index c.args.posts.now g) x ≡ false) c.args.stations.now c.loop-device.device
    c.loop-device-test.false c.loop-device.invariant
