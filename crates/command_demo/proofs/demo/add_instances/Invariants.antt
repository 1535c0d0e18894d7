use Rattle.std.proofs.Common.{◌≡◌, true, drop, take}
use Rattle.std.specs.List.{fold}
use Rattle.command_demo.specs.Demo.{takes_instances, with_place}
use Rattle.command_demo.proofs.demo.add_instances.Given as goal

abbrev pub invariant-loop-object : goal.invariant-loop-object
invariant-loop-object l = record {
  added : l.template ≡ fold with_place l.fn.template (take l.object-index l.places);
  taken : takes_instances l.template (drop l.object-index l.places) ≡ true;
}
