use Rattle.std.proofs.Common.{◌≡◌, ◌++◌, drop}
use Rattle.std.specs.List.{flat_map}
use Rattle.std.specs.String.{string_bytes}
use Rattle.scenario_asm.specs.Canonical.{of_object, printed_lines}
use Rattle.scenario_asm.proofs.printing.classes.put_objects.Given as goal

-- what is written, and what is still to come
abbrev pub invariant-loop-object : goal.invariant-loop-object
invariant-loop-object l =
    string_bytes l.out ++ printed_lines (flat_map of_object (drop l.object-index l.objects))
    ≡ string_bytes l.initial.out ++ printed_lines (flat_map of_object l.objects)
