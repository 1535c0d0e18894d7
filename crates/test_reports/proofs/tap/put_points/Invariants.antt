-- What is written, and what is still to come.
use Rattle.std.proofs.Common.{◌≡◌, ◌+◌, ◌++◌, drop}
use Rattle.std.specs.String.{string_bytes}
use Rattle.test_reports.specs.Tap.{points}
use Rattle.test_reports.proofs.tap.put_points.Given as goal

abbrev pub invariant-loop-place : goal.invariant-loop-place
invariant-loop-place l =
    string_bytes l.out ++ points (l.place + 1) (drop l.place l.all) ≡ string_bytes l.initial.out ++ points 1 l.all
