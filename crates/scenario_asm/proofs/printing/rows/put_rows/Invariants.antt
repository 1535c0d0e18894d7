use Rattle.std.proofs.Common.{◌≡◌, ◌++◌, drop}
use Rattle.std.specs.List.{flat_map}
use Rattle.std.specs.String.{string_bytes}
use Rattle.scenario_asm.specs.Canonical.{of_row, printed_lines}
use Rattle.scenario_asm.proofs.printing.rows.put_rows.Given as goal

-- what is written, and what is still to come
abbrev pub invariant-loop-device : goal.invariant-loop-device
invariant-loop-device l =
    string_bytes l.out ++ printed_lines (flat_map of_row (drop l.device l.scenario.rows)) ≡ string_bytes l.initial.out
    ++ printed_lines (flat_map of_row l.scenario.rows)
