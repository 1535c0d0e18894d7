use Rattle.std.proofs.Common.{◌≤◌, ℕ}
use Rattle.std.specs.BinaryHeap.{heap_items}
use Rattle.std.specs.declared.cmp.Reverse.{Reverse}
use Rattle.fleet_core.proofs.Queueing.{none_at_all, one_below, none_below}
use Rattle.fleet_core.proofs.queue.Queue.has_below.Goals as goal

pub returns-in-None-clause-none : goal.returns-in-None-clause-none
returns-in-None-clause-none c = λ is.
    none_at_all (λ (r : Reverse ℕ). r.0) (λ e. c.args.device ≤ e) (heap_items c.self.inside.heap) c.args.self.now
    c.self.view_is c.in-None.ensures.item.0

pub returns-in-Some-clause-below : goal.returns-in-Some-clause-below
returns-in-Some-clause-below c =
    one_below c.in-Some.lowest.now (heap_items c.self.inside.heap) c.args.self.now c.args.device c.self.view_is
    c.in-Some.ensures.item.0 c.in-Some.ensures.item.1

pub returns-in-Some-clause-none : goal.returns-in-Some-clause-none
returns-in-Some-clause-none c =
    none_below c.in-Some.lowest.now (heap_items c.self.inside.heap) c.args.self.now c.args.device c.self.view_is
    (c.in-Some.ensures.greatest c.self.invariant)
