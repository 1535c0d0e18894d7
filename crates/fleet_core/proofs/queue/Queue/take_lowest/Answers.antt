use Rattle.std.proofs.Common.{◌∷◌, IsPermutation, subst, ℕ}
use Rattle.std.proofs.lemmas.List.Sorted.{IsPermutation-map}
use Rattle.std.specs.BinaryHeap.{heap_items}
use Rattle.std.specs.declared.cmp.Reverse.{Reverse}
use Rattle.fleet_core.specs.Queue.{numbers_of}
use Rattle.fleet_core.proofs.Queueing.{first_lowest}
use Rattle.fleet_core.proofs.queue.Queue.take_lowest.Goals as goal

pub returns-clause-rest : goal.returns-clause-rest
returns-clause-rest c =
    subst (λ l. IsPermutation l (c.in_ok-lowest.lowest.0 ∷ numbers_of (heap_items c.pop.new.self))) c.self.view_is
    (IsPermutation-map (λ (r : Reverse ℕ). r.0) _ _ c.in_ok-lowest.ensures.permutation)

pub returns-clause-lowest : goal.returns-clause-lowest
returns-clause-lowest c =
    first_lowest c.in_ok-lowest.lowest _ (c.in_ok-lowest.ensures.below_top c.self.invariant)
