use Rattle.std.proofs.Common.{◌≤◌, All, subst, arith}
use Rattle.std.proofs.lemmas.List.Elements.{All-weaker}
use Rattle.std.specs.BinaryHeap.{heap_items}
use Rattle.fleet_core.specs.Queue.{numbers_of}
use Rattle.fleet_core.proofs.Queueing.{first_lowest}
use Rattle.shared_trace.proofs.candidates.Candidates.lowest_woken.Goals as goal

pub returns-then-from-self-clause-lowest : goal.returns-then-from-self-clause-lowest
returns-then-from-self-clause-lowest c =
    subst (λ v. All (λ e. c.in_ok-lowest.lowest.now.0 ≤ e) v.woken) c.self.view_is
    (first_lowest c.in_ok-lowest.lowest.now (heap_items c.self.inside.woken)
    (c.in_ok-lowest.ensures.greatest c.self.invariant))

pub returns-clause-none : goal.returns-clause-none
returns-clause-none c =
    subst (λ v. All (λ e. v.fresh ≤ e) v.woken) c.self.view_is
    (All-weaker (λ e. c.in_ok-lowest.lowest.now.0 ≤ e) (λ e. c.self.inside.fresh ≤ e)
    (λ e h. omega (arith, h, c.if-from-self.false, c.from.ensures)) (numbers_of (heap_items c.self.inside.woken))
    (first_lowest c.in_ok-lowest.lowest.now (heap_items c.self.inside.woken)
    (c.in_ok-lowest.ensures.greatest c.self.invariant)))
