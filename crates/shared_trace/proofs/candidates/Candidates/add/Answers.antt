use Rattle.std.proofs.Common.{ℕ, sym, subst}
use Rattle.std.proofs.lemmas.List.Sorted.{IsPermutation-map}
use Rattle.std.specs.BinaryHeap.{heap_items}
use Rattle.std.specs.declared.cmp.Reverse.{Reverse}
use Rattle.fleet_core.specs.Queue.{numbers_of}
use Rattle.fleet_core.proofs.Queueing.{added_here, added_kept}
use Rattle.shared_trace.specs.Roster.{IsCandidate}
use Rattle.shared_trace.proofs.candidates.Candidates.add.Goals as goal

pub returns-clause-added : goal.returns-clause-added
returns-clause-added c = λ less.
    added_here (numbers_of (heap_items c.self.inside.woken)) (numbers_of (heap_items c.push.new.self)) c.args.device
    (IsPermutation-map (λ (r : Reverse ℕ). r.0) _ _ c.in-Ok.ensures.permutation)

pub returns-clause-kept : goal.returns-clause-kept
returns-clause-kept c = λ d was less.
    added_kept (numbers_of (heap_items c.self.inside.woken)) (numbers_of (heap_items c.push.new.self)) c.args.device d
    (IsPermutation-map (λ (r : Reverse ℕ). r.0) _ _ c.in-Ok.ensures.permutation)
    (subst (λ v. IsCandidate v d) (sym c.self.view_is) was less)
