-- The classes before the index have bytes, and these were written.
use Rattle.std.proofs.Common.{◌≡◌, ◌++◌, [], take}
use Rattle.std.specs.List.{AllByRecursion}
use Rattle.byte_layout.proofs.Written.{spelled}
use Rattle.scenario_layout.specs.Class.{class}
use Rattle.scenario_image.proofs.image.put_each_class.Given as goal

abbrev pub invariant-loop-template : goal.invariant-loop-template
invariant-loop-template l = record {
  good : AllByRecursion (class 2).Good (take l.template-index l.list);
  bytes : l.out.items ≡ l.fn.out.items ++ spelled (λ before. class 2) [] (take l.template-index l.list);
}
