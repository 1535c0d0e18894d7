use Rattle.fleet_core.proofs.Holding.{more_begun}
use Rattle.fleet_core.proofs.held.held_of_rows.Goals as goal

pub loop-device-preserved : goal.loop-device-preserved
loop-device-preserved c =
    more_begun c.args.scenario.now c.loop-device.device c.loop-device.devices.items c.push.new.self.items c.new.result
    c.loop-device.invariant c.in_ok-push.ensures.items c.new.ensures
