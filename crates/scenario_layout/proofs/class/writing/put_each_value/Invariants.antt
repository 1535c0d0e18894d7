use Rattle.std.proofs.Common.{◌≡◌, ◌++◌, [], take}
use Rattle.byte_layout.proofs.Written.{spelled}
use Rattle.instance_store.specs.Listing.{shown_pairs}
use Rattle.device_template.specs.Template.{Template}
use Rattle.scenario_layout.specs.Class.{entry}
use Rattle.scenario_layout.proofs.class.writing.put_each_value.Given as goal

abbrev pub invariant-loop-path : goal.invariant-loop-path
invariant-loop-path l =
    (k : Template) → l.out.items ≡ l.fn.out.items ++ spelled (entry k) [] (shown_pairs (take l.path-index l.list))
