use Rattle.std.proofs.Common.{◌≡◌, ◌++◌, length}
use Rattle.scenario_words.specs.Words.{words}
use Rattle.scenario_mnemonics.proofs.reading.all_words.Given as goal

-- what was found, before the words that are left
abbrev pub invariant-loop-word : goal.invariant-loop-word
invariant-loop-word l = l.found.items ++ words l.rest ≡ words l.line

abbrev pub decreases-loop-word : goal.decreases-loop-word
decreases-loop-word l = length (words l.rest)
