use Rattle.std.proofs.Common.{◌≡◌, length}
use Rattle.scenario_words.specs.Words.{words}
use Rattle.scenario_words.proofs.line.behind_spaces.Given as goal

abbrev pub invariant-loop-rest : goal.invariant-loop-rest
invariant-loop-rest l = words l.rest ≡ words l.line

abbrev pub decreases-loop-rest : goal.decreases-loop-rest
decreases-loop-rest l = length l.rest
