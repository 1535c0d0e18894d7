use Rattle.std.proofs.Common.{◌≡◌, ◌∷◌, ℕ, Option, None, Some, IfSome, IsPermutation, slice_get, List, sym, subst}
use Rattle.std.proofs.Common.{arith}
use Rattle.std.proofs.lemmas.List.Sorted.{IsPermutation-map}
use Rattle.std.specs.BinaryHeap.{heap_items, heap_len}
use Rattle.std.specs.declared.cmp.Reverse.{Reverse}
use Rattle.fleet_core.specs.Queue.{numbers_of}
use Rattle.shared_trace.proofs.Woken.{first_dropped}
use Rattle.shared_trace.proofs.candidates.Candidates.drop_lowest.Goals as goal

numbers : (o : Option (Reverse ℕ)) (items rest : List (Reverse ℕ)) → IfSome o (λ x. IsPermutation items (x ∷ rest))
    → IfSome o (λ x. IsPermutation (numbers_of items) (x.0 ∷ numbers_of rest))
numbers None items rest taken = tt
numbers (Some x) items rest taken = IsPermutation-map (λ (r : Reverse ℕ). r.0) items (x ∷ rest) taken

pub returns-clause-rest : goal.returns-clause-rest
returns-clause-rest c = λ d at.
    subst (λ v. IsPermutation v.woken (d ∷ numbers_of (heap_items c.pop.new.self))) c.self.view_is
    (first_dropped (heap_items c.self.inside.woken) (heap_items c.pop.new.self) c.pop.result
    (heap_len c.self.inside.woken) d c.pop.ensures.top
    (numbers c.pop.result (heap_items c.self.inside.woken) (heap_items c.pop.new.self) c.pop.ensures.permutation)
    c.pop.ensures.none (omega (arith, c.self.inside.woken.data.ok.0))
    (subst (λ v. slice_get v.woken 0 ≡ Some d) (sym c.self.view_is) at))
