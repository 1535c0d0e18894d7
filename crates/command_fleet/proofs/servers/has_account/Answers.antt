use Rattle.command_fleet.proofs.Fixed.{found_at, none_at}
use Rattle.command_fleet.proofs.servers.has_account.Goals as goal

pub returns-then-device_has : goal.returns-then-device_has
returns-then-device_has c =
    found_at c.args.scenario.now c.args.account c.loop-device.device c.rows-device-end.result c.device_has.result
    c.loop-device-test.true c.rows-device-end.ensures.count c.device_has.ensures c.if-device_has.true

pub loop-device-preserved : goal.loop-device-preserved
loop-device-preserved c =
    none_at c.args.scenario.now c.args.account c.loop-device.device c.rows-device-end.result c.device_has.result
    c.loop-device-test.true c.rows-device-end.ensures.count c.device_has.ensures c.if-device_has.false
    c.loop-device.invariant
