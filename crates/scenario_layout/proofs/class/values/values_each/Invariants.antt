use Rattle.std.proofs.Common.{◌-◌, []}
use Rattle.byte_layout.specs.Layout.{each}
use Rattle.object_defs.specs.Path.{path_cmp}
use Rattle.scenario_layout.specs.Growing.{IsLast}
use Rattle.scenario_layout.specs.Class.{entry, values_in, with_values}
use Rattle.scenario_layout.proofs.Growth.{IsFilled}
use Rattle.scenario_layout.proofs.class.values.values_each.Given as goal

-- the class has the values that were read
abbrev pub invariant-loop : goal.invariant-loop
invariant-loop l = record {
  filled : IsFilled entry values_in with_values l.fn.template l.template (l.count - l.counter) l.rest
      ((each (entry l.fn.template) l.count []).read l.fn.bytes);
  last : IsLast path_cmp (λ e. e.0) (values_in l.template) l.last;
}
