use Rattle.std.proofs.Common.{◌-◌, []}
use Rattle.byte_layout.specs.Layout.{each}
use Rattle.scenario_layout.specs.Class.{object, objects_in, with_objects}
use Rattle.scenario_layout.proofs.Growth.{IsFilled}
use Rattle.scenario_layout.proofs.class.objects.objects_each.Given as goal

-- the class has the objects that were read
abbrev pub invariant-loop : goal.invariant-loop
invariant-loop l =
    IsFilled object objects_in with_objects l.fn.template l.template (l.count - l.counter) l.rest
    ((each (object l.fn.template) l.count []).read l.fn.bytes)
