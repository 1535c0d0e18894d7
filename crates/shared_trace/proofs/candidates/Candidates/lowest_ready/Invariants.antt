-- Each device that is ready is a candidate, and fewer and fewer are woken.
use Rattle.std.proofs.Common.{length, slice_index}
use Rattle.shared_trace.specs.Kept.{AreCandidates}
use Rattle.shared_trace.proofs.candidates.Candidates.lowest_ready.Given as goal

abbrev pub invariant-woken : goal.invariant-woken
invariant-woken l = AreCandidates (λ g. slice_index l.posts g) l.stations l.self

abbrev pub decreases-woken : goal.decreases-woken
decreases-woken l = length l.self.woken
