use Rattle.std.proofs.Common.{◌≡◌, map, take}
use Rattle.std.specs.Prelude.{None, find}
use Rattle.command_lint.specs.Choice.{is_unknown}
use Rattle.command_lint.proofs.choice.first_unknown.Given as goal

abbrev pub invariant-loop-word : goal.invariant-loop-word
invariant-loop-word l = find is_unknown (map (λ w. w.now) (take l.word-index l.words)) ≡ None
