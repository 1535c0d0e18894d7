-- The slices so far are those of the words before this one.
use Rattle.std.proofs.Common.{take}
use Rattle.command_join.specs.Slices.{AreSlices}
use Rattle.command_join.proofs.Words.{words_in}
use Rattle.command_join.proofs.slice.slices_of.Given as goal

abbrev pub invariant-loop-word : goal.invariant-loop-word
invariant-loop-word l = AreSlices (words_in (take l.word-index l.words)) l.all.items
