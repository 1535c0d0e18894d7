use Rattle.command_files.specs.World.{OnlyReads}
use Rattle.command_words.proofs.Taken.{IsTaken}
use Rattle.command_words.proofs.input.read_all.Given as goal

abbrev pub invariant-lines : goal.invariant-lines
invariant-lines g l = record {
  taken : IsTaken (g.W.World.seen l.initial.world).streams.input (g.W.World.seen l.world).streams.input l.log.items
      l.left;
  only : OnlyReads (g.W.World.seen l.initial.world) (g.W.World.seen l.world);
}

abbrev pub decreases-lines : goal.decreases-lines
decreases-lines g l = l.left
