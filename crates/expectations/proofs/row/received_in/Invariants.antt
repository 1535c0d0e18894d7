use Rattle.std.proofs.Common.{◌≡◌, ◌≤◌, ◌*◌, ◌++◌, drop}
use Rattle.expectations.specs.Arrivals.{arrivals_from}
use Rattle.expectations.proofs.row.received_in.Given as goal

-- what arrived so far, and what is still to come; each step takes less than 2^32 seconds
abbrev pub invariant-loop-step : goal.invariant-loop-step
invariant-loop-step l = record {
  so_far : l.arrivals.items ++ arrivals_from l.second (drop l.step-index l.steps)
      ≡ arrivals_from 0 l.steps;
  small : l.second ≤ l.step-index * 4294967295;
}
