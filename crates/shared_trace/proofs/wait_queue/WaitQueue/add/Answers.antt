use Rattle.std.proofs.Common.{◌∷◌, IsPermutation, subst, ℕ}
use Rattle.std.proofs.lemmas.List.Sorted.{IsPermutation-map}
use Rattle.std.specs.BinaryHeap.{heap_items}
use Rattle.std.specs.declared.cmp.Reverse.{Reverse}
use Rattle.fleet_core.specs.Queue.{pairs_of}
use Rattle.shared_trace.specs.Roster.{WaitersModel}
use Rattle.shared_trace.proofs.wait_queue.WaitQueue.add.Goals as goal

pub returns : goal.returns
returns c =
    subst (λ (v : WaitersModel). IsPermutation ((c.args.posts, c.args.device) ∷ v.pairs)
    (pairs_of (heap_items c.push.new.self))) c.self.view_is
    (IsPermutation-map (λ (r : Reverse (ℕ × ℕ)). r.0) _ _ c.in-Ok.ensures.permutation)
