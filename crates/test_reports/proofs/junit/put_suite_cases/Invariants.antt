-- What is written, and what is still to come.
use Rattle.std.proofs.Common.{◌≡◌, ◌++◌, drop}
use Rattle.std.specs.String.{string_bytes}
use Rattle.test_reports.specs.Junit.{suite_cases}
use Rattle.test_reports.proofs.junit.put_suite_cases.Given as goal

abbrev pub invariant-loop-case : goal.invariant-loop-case
invariant-loop-case l =
    string_bytes l.out ++ suite_cases l.several l.number (drop l.case-index l.all)
    ≡ string_bytes l.initial.out ++ suite_cases l.several l.number l.all
