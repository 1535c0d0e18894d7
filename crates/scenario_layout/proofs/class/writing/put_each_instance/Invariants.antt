use Rattle.std.proofs.Common.{◌≡◌, ◌++◌, [], take}
use Rattle.byte_layout.proofs.Written.{spelled}
use Rattle.device_template.specs.Template.{Template}
use Rattle.scenario_layout.specs.Class as layout
use Rattle.scenario_layout.proofs.class.writing.put_each_instance.Given as goal

abbrev pub invariant-loop-place : goal.invariant-loop-place
invariant-loop-place l =
    (k : Template) → l.out.items ≡ l.fn.out.items ++ spelled (layout.instance k) [] (take l.place-index l.list)
