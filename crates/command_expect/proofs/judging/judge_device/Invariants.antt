-- What is told of the cases before this one stands behind what was there.
use Rattle.std.proofs.Common.{◌++◌, List, map, take}
use Rattle.test_reports.specs.Choice.{case_of_file}
use Rattle.test_reports.specs.Told.{AreEach}
use Rattle.command_expect.specs.Choice.{CaseOfDevice, cases_of_device}
use Rattle.command_expect.specs.Told.{IsToldOn}
use Rattle.command_expect.proofs.judging.judge_device.Given as goal

abbrev pub invariant-loop-chosen : goal.invariant-loop-chosen
invariant-loop-chosen l =
    (before : List CaseOfDevice) → AreEach (IsToldOn l.scenario) before l.initial.all.items
    → AreEach (IsToldOn l.scenario)
    (before ++ cases_of_device (map case_of_file (take l.chosen-index l.cases)) l.device) l.all.items
