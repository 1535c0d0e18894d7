-- What is written, and what is still to come.
use Rattle.std.proofs.Common.{◌≡◌, ◌++◌, drop, map}
use Rattle.std.specs.String.{string_bytes}
use Rattle.test_reports.specs.Choice.{case_of_file}
use Rattle.command_test.specs.Jobs.{titles_text}
use Rattle.command_test.proofs.answers.titles_text.Given as goal

abbrev pub invariant-loop-chosen : goal.invariant-loop-chosen
invariant-loop-chosen l =
    string_bytes l.out ++ titles_text (map case_of_file (drop l.chosen-index l.cases))
    ≡ titles_text (map case_of_file l.cases)
