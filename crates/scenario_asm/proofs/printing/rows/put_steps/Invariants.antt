use Rattle.std.proofs.Common.{◌≡◌, ◌++◌, map, drop}
use Rattle.std.specs.String.{string_bytes}
use Rattle.scenario_asm.specs.Canonical.{of_step, printed_lines}
use Rattle.scenario_asm.proofs.printing.rows.put_steps.Given as goal

-- what is written, and what is still to come
abbrev pub invariant-loop-step : goal.invariant-loop-step
invariant-loop-step l =
    string_bytes l.out ++ printed_lines (map of_step (drop l.step-index l.steps)) ≡ string_bytes l.initial.out
    ++ printed_lines (map of_step l.steps)
