-- The slices before this one were joined.
use Rattle.std.proofs.Common.{take}
use Rattle.command_join.specs.Join.{IsJoinedSoFar}
use Rattle.command_join.proofs.whole.whole_of.Given as goal

abbrev pub invariant-loop-slice : goal.invariant-loop-slice
invariant-loop-slice g l = IsJoinedSoFar (g.F.Files.holds l.files) (take l.slice-index l.slices) l.so_far
