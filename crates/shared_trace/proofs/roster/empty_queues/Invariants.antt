use Rattle.std.proofs.Common.{◌≡◌, length}
use Rattle.shared_trace.proofs.roster.empty_queues.Given as goal

abbrev pub invariant-loop-added : goal.invariant-loop-added
invariant-loop-added l = length l.waiting.items ≡ l._added
