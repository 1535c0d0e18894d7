-- What was read so far was answered, and the rest of the 64 MiB is left.
use Rattle.std.proofs.Common.{◌≡◌}
use Rattle.command_debug.specs.Conversation.{IsExchange}
use Rattle.command_files.specs.Files.{most_bytes}
use Rattle.command_debug.proofs.Conversing.{IsSpent}
use Rattle.command_debug.proofs.conversation.converse.Given as goal

abbrev pub invariant-loop-more : goal.invariant-loop-more
invariant-loop-more g l = record {
  so_far : IsExchange (record { faults = g.W.World.faults; reasons = l.reasons })
      (g.W.World.seen l.initial.world).streams (g.W.World.seen l.world).streams l.initial.debugger l.debugger;
  spent : IsSpent (g.W.World.seen l.initial.world).streams.input (g.W.World.seen l.world).streams.input most_bytes
      l.left;
  none_made : (g.W.World.seen l.world).made ≡ (g.W.World.seen l.initial.world).made;
}

abbrev pub decreases-loop-more : goal.decreases-loop-more
decreases-loop-more g l = l.left
