use Rattle.std.proofs.Common.{Contains, sym, ap, subst}
use Rattle.shared_trace.specs.Roster.{WaitersModel}
use Rattle.shared_trace.proofs.Waits.{one_moved, all_woken, one_less}
use Rattle.shared_trace.proofs.wait_queue.WaitQueue.wake.Goals as goal

pub met-smaller : goal.met-smaller
met-smaller c =
    one_less c.met.self.pairs c.take_met.new.self.pairs c.args.posts c.in-Some.device c.in-Some.ensures.met

pub met-preserved : goal.met-preserved
met-preserved c =
    one_moved _ c.met.self.pairs c.take_met.new.self.pairs _ c.met.candidates c.add.new.self c.args.posts
    c.in-Some.device c.met.invariant c.in-Some.ensures.met c.add.ensures.added c.add.ensures.kept

pub returns-clause-woken : goal.returns-clause-woken
returns-clause-woken c =
    all_woken c.args.self.now.pairs c.met.self.pairs c.take_met.new.self.pairs c.args.candidates.now c.met.candidates
    c.args.posts c.met.invariant (ap (λ (v : WaitersModel). v.pairs) c.in_default.ensures.unchanged)
    c.in_default.ensures.unmet

pub returns-clause-waiting : goal.returns-clause-waiting
returns-clause-waiting c = λ d n has more.
    subst (λ (v : WaitersModel). Contains v.pairs (n, d)) (sym c.in_default.ensures.unchanged)
    (c.met.invariant.waiting d n has more)
