use Rattle.std.proofs.Common.{ℕ, ◌≤◌, sym, subst, ◌∙◌}
use Rattle.ticket_lock.specs.Log.{Adds}
use Rattle.shared_trace.specs.Trace.{IsShared, IsReady, trace_log}
use Rattle.shared_trace.specs.Claims.{IsTaken, Claims}
use Rattle.shared_trace.proofs.trace.Trace.claim.Goals as goal

pub returns-in-Some-clause-claims : goal.returns-in-Some-clause-claims
returns-in-Some-clause-claims c = record {
  going = sym c.is_stopped.ensures.is ∙ c.if-is_stopped.false;
  taken = subst (λ t. IsTaken t c.hand_out.new.self c.args.worker c.hand_out.result)
      (c.list_for_job-list.ensures.same ∙ c.lowest.ensures.same) c.hand_out.ensures.taken;
  lowest = subst (λ n. (d : ℕ) → IsReady c.args.self.now d → n ≤ d)
      (sym c.hand_out.ensures.device)
      (λ d ready. c.in-Some.ensures.ready.1 d (subst (λ t. IsReady t d) (sym c.lowest.ensures.same) ready));
}

pub hand_out-requires-clause-ready : goal.hand_out-requires-clause-ready
hand_out-requires-clause-ready c =
    subst (λ t. IsReady t c.in-Some.device) (sym c.list_for_job-list.ensures.same) c.in-Some.ensures.ready.0

pub returns-in-Some-clause-adds : goal.returns-in-Some-clause-adds
returns-in-Some-clause-adds c =
    subst (λ t. Adds trace_log c.args.worker t c.hand_out.new.self)
    (c.list_for_job-list.ensures.same ∙ c.lowest.ensures.same) c.hand_out.ensures.adds

pub returns-in-None-clause-claims : goal.returns-in-None-clause-claims
returns-in-None-clause-claims c =
    subst (λ t. Claims t c.lowest.new.self c.args.worker c.idle.result) c.lowest.ensures.same
    (c.idle.ensures.claims c.args.worker)

pub returns-in-None-clause-stands : goal.returns-in-None-clause-stands
returns-in-None-clause-stands c = c.idle.ensures.stands c.args.worker

pub returns-in-None-clause-shared : goal.returns-in-None-clause-shared
returns-in-None-clause-shared c = subst IsShared (sym c.lowest.ensures.same) c.is_stopped.ensures.shared
