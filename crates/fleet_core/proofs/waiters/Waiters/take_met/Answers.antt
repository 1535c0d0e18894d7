use Rattle.std.proofs.Common.{◌∷◌, IsPermutation, subst, ℕ}
use Rattle.std.proofs.lemmas.List.Sorted.{IsPermutation-map}
use Rattle.std.specs.BinaryHeap.{heap_items}
use Rattle.std.specs.declared.cmp.Reverse.{Reverse}
use Rattle.fleet_core.specs.Queue.{pairs_of}
use Rattle.fleet_core.proofs.waiters.Waiters.take_met.Goals as goal

pub returns-clause-met : goal.returns-clause-met
returns-clause-met c = (
  c.in_ok-first.first.0.0,
  subst (λ l. IsPermutation l (c.in_ok-first.first.0 ∷ pairs_of (heap_items c.pop.new.self))) c.self.view_is
      (IsPermutation-map (λ (r : Reverse (ℕ × ℕ)). r.0) _ _ c.in_ok-first.ensures.permutation),
)
