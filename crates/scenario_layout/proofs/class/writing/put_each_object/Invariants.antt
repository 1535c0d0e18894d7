use Rattle.std.proofs.Common.{◌≡◌, ◌++◌, [], take}
use Rattle.byte_layout.proofs.Written.{spelled}
use Rattle.device_template.specs.Template.{Template}
use Rattle.scenario_layout.specs.Class as layout
use Rattle.scenario_layout.proofs.class.writing.put_each_object.Given as goal

abbrev pub invariant-loop-object : goal.invariant-loop-object
invariant-loop-object l =
    (k : Template) → l.out.items ≡ l.fn.out.items ++ spelled (layout.object k) [] (take l.object-index l.list)
