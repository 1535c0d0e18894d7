-- The files that were read are those at the paths before this one.
use Rattle.std.proofs.Common.{take}
use Rattle.test_reports.specs.Reading.{AreRead}
use Rattle.test_reports.proofs.Files.{paths_in}
use Rattle.test_reports.proofs.reading.read_files.Given as goal

abbrev pub invariant-loop-path : goal.invariant-loop-path
invariant-loop-path g l =
    AreRead g.C.TestCase.cases_in (g.F.Files.holds l.files) (paths_in (take l.path-index l.paths)) l.all.items
