use Rattle.std.proofs.Common.{◌≡◌}
use Rattle.command_texts.specs.Blamed.{line_at}
use Rattle.command_texts.proofs.blaming.line_at.Given as goal

abbrev pub invariant-loop-count : goal.invariant-loop-count
invariant-loop-count l = line_at l.left l.count ≡ line_at l.fn.text l.fn.number

abbrev pub decreases-loop-count : goal.decreases-loop-count
decreases-loop-count l = l.count
