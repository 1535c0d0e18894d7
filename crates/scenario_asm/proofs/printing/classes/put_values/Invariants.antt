use Rattle.std.proofs.Common.{◌≡◌, ◌++◌, map, drop}
use Rattle.std.specs.String.{string_bytes}
use Rattle.instance_store.specs.Listing.{shown_pairs}
use Rattle.scenario_asm.specs.Canonical.{of_value, printed_lines}
use Rattle.scenario_asm.proofs.printing.classes.put_values.Given as goal

-- what is written, and what is still to come
abbrev pub invariant-loop-path : goal.invariant-loop-path
invariant-loop-path l =
    string_bytes l.out ++ printed_lines (map of_value (shown_pairs (drop l.path-index l.values)))
    ≡ string_bytes l.initial.out ++ printed_lines (map of_value (shown_pairs l.values))
