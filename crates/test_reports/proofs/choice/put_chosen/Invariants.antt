-- The cases that are there, and those that are still to come.
use Rattle.std.proofs.Common.{◌≡◌, ◌++◌, drop, filter, map, option_map}
use Rattle.test_reports.specs.Choice.{case_of_file, in_file, is_chosen}
use Rattle.test_reports.proofs.choice.put_chosen.Given as goal

abbrev pub invariant-loop-case : goal.invariant-loop-case
invariant-loop-case g l =
    map case_of_file l.all.items
    ++ map (in_file l.number l.file)
    (filter (is_chosen g.C.TestCase.title_of (option_map (λ w. w.now) l.only)) (drop l.case-index l.file.cases.items))
    ≡ map case_of_file l.initial.all.items
    ++ map (in_file l.number l.file)
    (filter (is_chosen g.C.TestCase.title_of (option_map (λ w. w.now) l.only)) l.file.cases.items)
