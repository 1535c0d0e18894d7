use Rattle.fleet_core.proofs.Started.{more_started}
use Rattle.fleet_core.proofs.performing.start_devices.Goals as goal

pub loop-device-preserved : goal.loop-device-preserved
loop-device-preserved c =
    more_started c.args.scenario.now c.loop-device.device c.loop-device.devices.items c.push.new.self.items
    c.in_ok-start_of_row.field-0
    c.loop-device.invariant c.in_ok-push.ensures.items c.in_ok-start_of_row.ensures
