use Rattle.std.proofs.Common.{map}
use Rattle.test_reports.specs.Choice.{case_of_file}
use Rattle.command_expect.specs.Choice.{cases_of_devices, devices_to}
use Rattle.command_expect.proofs.Judged.{one_device_more}
use Rattle.command_expect.proofs.judging.judge_devices.Goals as goal

pub loop-device-preserved : goal.loop-device-preserved
loop-device-preserved c =
    one_device_more c.args.scenario.now (map case_of_file c.args.cases.now) c.loop-device.device
    c.judge_device.new.all.items
    (c.in_ok-judge_device.ensures
    (cases_of_devices (map case_of_file c.args.cases.now) (devices_to c.loop-device.device)) c.loop-device.invariant)
