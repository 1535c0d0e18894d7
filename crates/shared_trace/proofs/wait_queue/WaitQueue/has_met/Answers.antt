use Rattle.std.proofs.Common.{◌≡◌, ◌<◌, All, Some, slice_get, subst, ℕ}
use Rattle.std.proofs.lemmas.Bool.{leb-true, leb-false}
use Rattle.std.specs.BinaryHeap.{heap_items}
use Rattle.fleet_core.proofs.Queueing.{none_met}
use Rattle.shared_trace.specs.Roster.{WaitersModel}
use Rattle.shared_trace.proofs.Waits.{first_pair}
use Rattle.shared_trace.proofs.wait_queue.WaitQueue.has_met.Goals as goal

pub returns-in-Some-clause-met : goal.returns-in-Some-clause-met
returns-in-Some-clause-met c = λ few. (
  c.in-Some.first.now.0.0,
  c.in-Some.first.now.0.1,
  subst (λ (v : WaitersModel). slice_get v.pairs 0 ≡ Some c.in-Some.first.now.0) c.self.view_is
      (first_pair c.in-Some.first.now (heap_items c.self.inside.heap) c.in-Some.ensures.item.0
      c.in-Some.ensures.item.1),
  leb-true c.in-Some.first.now.0.0 c.args.posts few,
)

pub returns-in-Some-clause-unmet : goal.returns-in-Some-clause-unmet
returns-in-Some-clause-unmet c = λ more.
    subst (λ (v : WaitersModel). All (λ (w : ℕ × ℕ). c.args.posts < w.0) v.pairs) c.self.view_is
    (none_met c.in-Some.first.now (heap_items c.self.inside.heap) c.args.posts
    (c.in-Some.ensures.greatest c.self.invariant) (leb-false c.in-Some.first.now.0.0 c.args.posts more))
