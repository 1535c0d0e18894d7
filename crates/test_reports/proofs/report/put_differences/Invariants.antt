-- What is written, and what is still to come.
use Rattle.std.proofs.Common.{◌≡◌, ◌++◌, drop}
use Rattle.std.specs.List.{flat_map}
use Rattle.std.specs.String.{string_bytes}
use Rattle.test_reports.specs.Report.{difference}
use Rattle.test_reports.proofs.report.put_differences.Given as goal

abbrev pub invariant-loop-case : goal.invariant-loop-case
invariant-loop-case l =
    string_bytes l.out ++ flat_map (difference l.several) (drop l.case-index l.all)
    ≡ string_bytes l.initial.out ++ flat_map (difference l.several) l.all
