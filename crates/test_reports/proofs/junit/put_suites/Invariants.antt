-- What is written, and what is still to come.
use Rattle.std.proofs.Common.{◌≡◌, ◌++◌, drop}
use Rattle.std.specs.String.{string_bytes}
use Rattle.test_reports.specs.Junit.{suites}
use Rattle.test_reports.proofs.junit.put_suites.Given as goal

abbrev pub invariant-loop-number : goal.invariant-loop-number
invariant-loop-number g l =
    string_bytes l.out ++ suites l.several l.number (drop l.number l.files) l.all
    ≡ string_bytes l.initial.out ++ suites l.several 0 l.files l.all
