use Rattle.std.proofs.Common.{◌≡◌, length, reverse}
use Rattle.command_words.specs.Logs.{after_spaces}
use Rattle.command_words.proofs.log.before_spaces.Given as goal

abbrev pub invariant-loop-left : goal.invariant-loop-left
invariant-loop-left l = after_spaces (reverse l.left) ≡ after_spaces (reverse l.line)

abbrev pub decreases-loop-left : goal.decreases-loop-left
decreases-loop-left l = length l.left
