use Rattle.std.proofs.Common.{◌≡◌, ◌++◌, length}
use Rattle.scenario_words.specs.Words.{words}
use Rattle.expectations.specs.ExpectationWords.{before_within, from_within}
use Rattle.expectations.proofs.reading.words_before_within.Given as goal

-- what was found, before what is left
abbrev pub invariant-loop-word : goal.invariant-loop-word
invariant-loop-word l = record {
  found : l.found.items ++ before_within (words l.rest) ≡ before_within (words l.line);
  behind : from_within (words l.rest) ≡ from_within (words l.line);
}

abbrev pub decreases-loop-word : goal.decreases-loop-word
decreases-loop-word l = length (words l.rest)
