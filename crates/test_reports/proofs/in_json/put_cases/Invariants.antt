-- What is written, and what is still to come.
use Rattle.std.proofs.Common.{◌≡◌, ◌++◌, drop, map}
use Rattle.std.specs.String.{string_bytes}
use Rattle.trace_json.specs.Lines.{json_lines}
use Rattle.test_reports.specs.InJson.{case_json}
use Rattle.test_reports.proofs.in_json.put_cases.Given as goal

abbrev pub invariant-loop-case : goal.invariant-loop-case
invariant-loop-case l =
    string_bytes l.out ++ json_lines (map case_json (drop l.case-index l.all))
    ≡ string_bytes l.initial.out ++ json_lines (map case_json l.all)
