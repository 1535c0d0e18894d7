use Rattle.fleet_link.proofs.Started.{more_first, more_recorded, more_repeated, more_shares, none_first}
use Rattle.fleet_link.proofs.Started.{none_recorded, none_repeated, none_shares}
use Rattle.fleet_link.proofs.fleet.Fleet.start_rows.Goals as goal

pub loop-device-init : goal.loop-device-init
loop-device-init c = record {
  first = none_first c.args.scenario.now c.args.played _ c.in_ok-slots.ensures.items;
  recorded = none_recorded _ c.in_ok-slots.ensures.items;
  repeated = none_repeated _ _ c.in_ok-slots.ensures.items;
  shares = none_shares _ _ c.in_ok-slots.ensures.items;
}

pub loop-device-preserved : goal.loop-device-preserved
loop-device-preserved c = record {
  first = more_first c.args.scenario.now c.args.played c.loop-device.device c.loop-device.slots.items
      c.push.new.self.items
      c.in_ok-slot_of_row.field-0 c.loop-device.invariant.first c.in_ok-push.ensures.items
      c.in_ok-slot_of_row.ensures.served c.in_ok-slot_of_row.ensures.second c.in_ok-slot_of_row.ensures.first;
  recorded = more_recorded c.loop-device.slots.items c.push.new.self.items c.in_ok-slot_of_row.field-0
      c.loop-device.invariant.recorded c.in_ok-push.ensures.items c.in_ok-slot_of_row.ensures.recorded;
  repeated = more_repeated c.loop-device.slots.items c.push.new.self.items c.in_ok-slot_of_row.field-0 _
      c.loop-device.invariant.repeated c.in_ok-push.ensures.items c.in_ok-slot_of_row.ensures.repeated;
  shares = more_shares c.loop-device.slots.items c.push.new.self.items c.in_ok-slot_of_row.field-0 _
      c.loop-device.invariant.shares c.in_ok-push.ensures.items c.in_ok-slot_of_row.ensures.share;
}
