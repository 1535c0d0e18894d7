use Rattle.std.proofs.Common.{◌≡◌, ◌++◌, take}
use Rattle.std.specs.List.{flat_map}
use Rattle.command_lint.specs.History.{sent_by}
use Rattle.command_lint.proofs.history.add_outputs.Given as goal

abbrev pub invariant-loop-output : goal.invariant-loop-output
invariant-loop-output l =
    l.items.items ≡ l.initial.items.items ++ flat_map (sent_by l.place l.second) (take l.output-index l.outputs)
