use Rattle.std.proofs.Common.{◌≡◌, ◌≤◌, ◌*◌, take}
use Rattle.std.specs.List.{sum_by}
use Rattle.scenario_image.specs.Layout.{seconds_in}
use Rattle.expectations.proofs.row.end_of_row.Given as goal

-- the seconds of the steps so far, each of which takes less than 2^32
abbrev pub invariant-loop-step : goal.invariant-loop-step
invariant-loop-step l = record {
  so_far : l.second ≡ sum_by seconds_in (take l.step-index l.steps);
  small : l.second ≤ l.step-index * 4294967295;
}
