use Rattle.std.proofs.Common.{◌≡◌, take, drop, []}
use Rattle.case_text.specs.Checks.{check_of_cases}
use Rattle.case_text.proofs.checking.checked.Given as goal

-- what is left decides
abbrev pub invariant-loop-place : goal.invariant-loop-place
invariant-loop-place l = check_of_cases (take l.place l.cases) (drop l.place l.cases) ≡ check_of_cases [] l.cases
