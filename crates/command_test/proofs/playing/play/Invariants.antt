-- What is told of the cases before this one.
use Rattle.std.proofs.Common.{map, take}
use Rattle.test_reports.specs.Choice.{case_of_file}
use Rattle.test_reports.specs.Told.{AreEach}
use Rattle.command_test.specs.Told.{IsToldOf}
use Rattle.command_test.proofs.playing.play.Given as goal

abbrev pub invariant-loop-chosen : goal.invariant-loop-chosen
invariant-loop-chosen l = AreEach IsToldOf (map case_of_file (take l.chosen-index l.cases)) l.all.items
