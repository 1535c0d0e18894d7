-- The total is that of the rows before the index.
use Rattle.std.proofs.Common.{◌≡◌, length, take}
use Rattle.std.specs.List.{sum_by}
use Rattle.scenario_image.proofs.scenario.Scenario.steps.Given as goal

abbrev pub invariant-loop-row : goal.invariant-loop-row
invariant-loop-row l = l.total ≡ sum_by (λ r. length r.steps) (take l.row-index l.rows)
