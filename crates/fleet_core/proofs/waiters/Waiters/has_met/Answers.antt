use Rattle.std.proofs.Common.{◌<◌, All, subst, ℕ}
use Rattle.std.proofs.lemmas.Bool.{leb-false}
use Rattle.std.specs.BinaryHeap.{heap_items}
use Rattle.std.specs.declared.cmp.Reverse.{Reverse}
use Rattle.fleet_core.proofs.Queueing.{none_at_all, none_met}
use Rattle.fleet_core.proofs.waiters.Waiters.has_met.Goals as goal

pub returns-in-None : goal.returns-in-None
returns-in-None c = λ is.
    none_at_all (λ (r : Reverse (ℕ × ℕ)). r.0) (λ (w : ℕ × ℕ). c.args.posts < w.0) (heap_items c.self.inside.heap)
    c.args.self.now c.self.view_is c.in-None.ensures.item.0

pub returns-in-Some : goal.returns-in-Some
returns-in-Some c = λ more.
    subst (All (λ (w : ℕ × ℕ). c.args.posts < w.0)) c.self.view_is
    (none_met c.in-Some.first.now (heap_items c.self.inside.heap) c.args.posts
    (c.in-Some.ensures.greatest c.self.invariant) (leb-false c.in-Some.first.now.0.0 c.args.posts more))
