use Rattle.std.proofs.Common.{◌≡◌, ◌++◌, take, drop}
use Rattle.std.specs.List.{flat_map, AllByRecursion}
use Rattle.std.specs.String.{string_bytes}
use Rattle.device_template.specs.Built.{IsBuilt}
use Rattle.scenario_asm.specs.Canonical.{of_class, printed_lines}
use Rattle.scenario_asm.proofs.printing.classes.put_classes.Given as goal

-- what is written, and what is still to come; the classes that were written are what accepted additions made
abbrev pub invariant-loop-number : goal.invariant-loop-number
invariant-loop-number l = record {
  so_far : string_bytes l.out ++ printed_lines (flat_map of_class (drop l.number l.scenario.classes))
      ≡ string_bytes l.initial.out ++ printed_lines (flat_map of_class l.scenario.classes);
  built : AllByRecursion IsBuilt (take l.number l.scenario.classes);
}
