use Rattle.std.proofs.Common.{◌≡◌, ◌≤◌, ◌∷◌, IsPermutation, Some, slice_get, refl, sym, subst, ℕ}
use Rattle.std.proofs.lemmas.List.Sorted.{IsPermutation-map}
use Rattle.std.specs.BinaryHeap.{heap_items}
use Rattle.std.specs.declared.cmp.Reverse.{Reverse}
use Rattle.fleet_core.specs.Queue.{pairs_of}
use Rattle.shared_trace.specs.Roster.{WaitersModel}
use Rattle.shared_trace.proofs.Waits.{first_few}
use Rattle.shared_trace.proofs.wait_queue.WaitQueue.take_met.Goals as goal

pub returns-clause-met : goal.returns-clause-met
returns-clause-met c = (
  c.in_ok-first.first.0.0,
  first_few c.in_ok-first.first (heap_items c.self.inside.heap) c.args.posts c.in_ok-first.ensures.top
      (subst (λ (v : WaitersModel). (n : ℕ) × (d : ℕ) × (slice_get v.pairs 0 ≡ Some (n, d)) × (n ≤ c.args.posts))
      (sym c.self.view_is) (c.if-not-has_met.ensures.met refl)),
  subst (λ (v : WaitersModel). IsPermutation v.pairs (c.in_ok-first.first.0 ∷ pairs_of (heap_items c.pop.new.self)))
      c.self.view_is
      (IsPermutation-map (λ (r : Reverse (ℕ × ℕ)). r.0) _ _ c.in_ok-first.ensures.permutation),
)
