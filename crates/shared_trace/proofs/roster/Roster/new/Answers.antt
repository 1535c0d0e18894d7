use Rattle.std.proofs.Common.{arith}
use Rattle.std.proofs.lemmas.Option.{slice_get_within}
use Rattle.shared_trace.specs.Kept.{IsListedAt}
use Rattle.shared_trace.proofs.Waits.{still_listed, scan_next}
use Rattle.shared_trace.proofs.Rostering.{start_roster}
use Rattle.shared_trace.proofs.roster.Roster.new.Goals as goal

pub loop-device-preserved : goal.loop-device-preserved
loop-device-preserved c = (
  omega (arith, c.let_wait.ensures.kept.groups, c.make_room.ensures.kept.groups, c.loop-device.invariant.0),
  scan_next (λ i x. IsListedAt c.let_wait.new.waiting.items i x.next) c.args.stations.now c.loop-device.device
      c.index-stations-device.result c.loop-device-test.true c.index-stations-device.is c.let_wait.ensures.listed
      (λ i x less at. still_listed c.make_room.new.waiting.items c.let_wait.new.waiting.items i x.next
      c.let_wait.ensures.kept
      (still_listed c.loop-device.waiting.items c.make_room.new.waiting.items i x.next c.make_room.ensures.kept
      (c.loop-device.invariant.1 i x less at))),
)

pub returns : goal.returns
returns c =
    start_roster c.args.stations.now _ c.args.places c.loop-device.invariant.0 c.in_ok-candidates.ensures
    (λ i x at. c.loop-device.invariant.1 i x
    (omega (arith, slice_get_within c.args.stations.now i x at, c.loop-device-test.false)) at)
