-- What is told for the devices before this one.
use Rattle.std.proofs.Common.{map}
use Rattle.test_reports.specs.Choice.{case_of_file}
use Rattle.test_reports.specs.Told.{AreEach}
use Rattle.command_expect.specs.Choice.{cases_of_devices, devices_to}
use Rattle.command_expect.specs.Told.{IsToldOn}
use Rattle.command_expect.proofs.judging.judge_devices.Given as goal

abbrev pub invariant-loop-device : goal.invariant-loop-device
invariant-loop-device l =
    AreEach (IsToldOn l.scenario) (cases_of_devices (map case_of_file l.cases) (devices_to l.device)) l.all.items
