-- The cases that are there, and those that are still to come.
use Rattle.std.proofs.Common.{◌≡◌, ◌++◌, drop, map, option_map}
use Rattle.test_reports.specs.Choice.{case_of_file, choice, choice_from}
use Rattle.test_reports.proofs.choice.chosen_cases.Given as goal

abbrev pub invariant-loop-number : goal.invariant-loop-number
invariant-loop-number g l =
    map case_of_file l.all.items
    ++ choice_from g.C.TestCase.title_of (option_map (λ w. w.now) l.only) l.number (drop l.number l.files)
    ≡ choice g.C.TestCase.title_of (option_map (λ w. w.now) l.only) l.files
