use Rattle.std.proofs.Common.{length}
use Rattle.scenario_words.specs.Words.{words}
use Rattle.command_texts.proofs.Searching.{IsSearched}
use Rattle.command_texts.proofs.blaming.wrong_word.Given as goal

abbrev pub invariant-loop-word : goal.invariant-loop-word
invariant-loop-word g l = IsSearched g.L.LineReader.causes l.fn.cause l.fn.line l.so_far.items l.left

abbrev pub decreases-loop-word : goal.decreases-loop-word
decreases-loop-word g l = length (words l.left)
