use Rattle.std.proofs.Common.{◌-◌, []}
use Rattle.byte_layout.specs.Layout.{each}
use Rattle.object_defs.specs.Path.{instance_cmp}
use Rattle.scenario_layout.specs.Growing.{IsLast}
use Rattle.scenario_layout.specs.Class.{instance, instances_in, with_instances}
use Rattle.scenario_layout.proofs.Growth.{IsFilled}
use Rattle.scenario_layout.proofs.class.instances.instances_each.Given as goal

-- the class has the instances that were read
abbrev pub invariant-loop : goal.invariant-loop
invariant-loop l = record {
  filled : IsFilled instance instances_in with_instances l.fn.template l.template (l.count - l.counter) l.rest
      ((each (instance l.fn.template) l.count []).read l.fn.bytes);
  last : IsLast instance_cmp (λ p. p) (instances_in l.template) l.last;
}
