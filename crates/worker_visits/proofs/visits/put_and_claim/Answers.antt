use Rattle.std.proofs.Common.{◌++◌, inl, refl, sym, ap, subst, ◌∙◌, arith}
use Rattle.ticket_lock.specs.Log.{Adds}
use Rattle.shared_trace.specs.Trace.{with_block, stopped_under, work_by, no_work, trace_log}
use Rattle.shared_trace.specs.Job.{MayPut}
use Rattle.shared_trace.specs.Claims.{Claims, ClaimStands}
use Rattle.worker_visits.specs.Knowing.{Gets}
use Rattle.worker_visits.proofs.Following.{follows, may_put, is_put, claimed_after}
use Rattle.worker_visits.proofs.Blocks.{own_left, own_ended, own_block, own_put, claim_leaves}
use Rattle.worker_visits.proofs.Outs.{both_outs, stop_outs, visit_outs, visit_leaves}
use Rattle.worker_visits.proofs.Stops.{claim_keeps, still_going, now_stopped}
use Rattle.worker_visits.proofs.Visiting.{visit_spent}
use Rattle.worker_visits.proofs.visits.put_and_claim.Goals as goal

pub put_then_claim-claim-requires : goal.put_then_claim-claim-requires
put_then_claim-claim-requires g c =
    let v = c.args.pass.seat.me.0 in let h = c.in-Ok.held in
    subst (λ n. MayPut c.value_mut.result.now n c.args.job) (sym c.number-worker.ensures)
    (subst (λ x. MayPut x v.low c.args.job) (sym c.value_mut.ensures.value)
    (may_put v h.value c.args.job c.in-Ok.ensures.value c.requires.knows
    (c.in-Ok.ensures.work no_work) c.requires.ready))

pub returns-in-Some-clause-visit : goal.returns-in-Some-clause-visit
returns-in-Some-clause-visit g c =
    let v = c.args.pass.seat.me.0 in let h = c.in-Ok.held in let new = c.put_then_claim-claim.new.trace in let job =
    c.args.job in
    let claim = c.in-Some.claim in
    let claims : Claims (with_block h.value job.device job.held job.entries) new v.low claim =
    subst (λ x. Claims (with_block x job.device job.held job.entries) new v.low claim) c.value_mut.ensures.value
    (subst (λ n. Claims (with_block c.value_mut.result.now job.device job.held job.entries) new n claim)
    c.number-worker.ensures c.in-Some.ensures.claims) in
    record {
      follows = follows v c.give-pass.result.seat.me.0 h.seat.me.0 c.in-Ok.ensures.view.0 h.value new
          c.in-Ok.ensures.value c.in-Ok.ensures.view.1 c.give-pass.ensures.given
          (omega (arith, c.args.pass.within.1, c.args.pass.numbers.0))
          (omega (arith, c.args.pass.within.0, c.args.pass.within.2, c.args.pass.numbers.0))
          (subst (λ x. Adds trace_log v.low x new) c.value_mut.ensures.value
          (subst (λ n. Adds trace_log n c.value_mut.result.now new) c.number-worker.ensures
          c.put_then_claim-claim.ensures.adds))
          c.put_then_claim-claim.ensures.shared;
      claimed = claimed_after v c.give-pass.result.seat.me.0 h.seat.me.0 c.in-Ok.ensures.view.0 h.value new job claim
          c.in-Ok.ensures.value c.in-Ok.ensures.view.1 c.give-pass.ensures.given
          (c.give-pass.ensures.work no_work ∙ ap (λ u. work_by new u.low) c.in-Ok.ensures.view.1) claims
          (subst (λ n. ClaimStands new n claim) c.number-worker.ensures c.in-Some.ensures.stands);
      end = tt;
      going = λ _. still_going v c.give-pass.result.seat.me.0 h.seat.me.0 c.in-Ok.ensures.view.0 h.value new
          c.in-Ok.ensures.view.1 (c.in-Ok.ensures.work no_work) (c.give-pass.ensures.work no_work)
          (claim_keeps (with_block c.value_mut.result.now job.device job.held job.entries) new _ claim
          c.in-Some.ensures.claims
          ∙ ap (λ x. x.stopped_by) c.value_mut.ensures.value);
      out = λ d. visit_outs v c.give-pass.result.seat.me.0 h.seat.me.0 c.in-Ok.ensures.view.0 h.value new
          (Gets claim d) d c.in-Ok.ensures.view.1 (c.in-Ok.ensures.work no_work) (c.give-pass.ensures.work no_work)
          (both_outs h.value new v.low job claim d claims);
    }

pub returns-in-Some-clause-put : goal.returns-in-Some-clause-put
returns-in-Some-clause-put g c _ =
    let v = c.args.pass.seat.me.0 in let h = c.in-Ok.held in let new = c.put_then_claim-claim.new.trace in let job =
    c.args.job in
    is_put v c.give-pass.result.seat.me.0 h.seat.me.0 c.in-Ok.ensures.view.0 h.value new job c.in-Ok.ensures.value
    c.in-Ok.ensures.view.1 c.give-pass.ensures.given
    (c.in-Ok.ensures.own v.low (omega arith, omega (arith, c.args.pass.within.0, c.args.pass.numbers.1)))
    (claim_leaves (with_block c.value_mut.result.now job.device job.held job.entries) new _ c.in-Some.claim
    c.in-Some.ensures.claims
    ∙ ap (λ x. x.entries ++ job.entries) c.value_mut.ensures.value)

pub returns-in-Some-clause-own : goal.returns-in-Some-clause-own
returns-in-Some-clause-own g c is =
    let v = c.args.pass.seat.me.0 in let h = c.in-Ok.held in let new = c.put_then_claim-claim.new.trace in let job =
    c.args.job in
    own_put v.low v.front job.entries c.give-pass.result.seat.me.0.front (returns-in-Some-clause-put g c is)
    (own_block v.low h.value new job
    (subst (λ x. Adds trace_log v.low x new) c.value_mut.ensures.value
    (subst (λ n. Adds trace_log n c.value_mut.result.now new) c.number-worker.ensures
    c.put_then_claim-claim.ensures.adds))
    (claim_leaves (with_block c.value_mut.result.now job.device job.held job.entries) new _ c.in-Some.claim
    c.in-Some.ensures.claims
    ∙ ap (λ x. x.entries ++ job.entries) c.value_mut.ensures.value))

pub returns-in-None-clause-memory : goal.returns-in-None-clause-memory
returns-in-None-clause-memory g c _ =
    let v = c.args.pass.seat.me.0 in let h = c.in-Ok.held in let new = c.put_then_claim-claim.new.trace in
    now_stopped v c.give-pass.result.seat.me.0 h.seat.me.0 c.in-Ok.ensures.view.0 c.number-worker.result
    h.value new c.in-Ok.ensures.view.1 (c.give-pass.ensures.work no_work)
    (c.in-None.ensures.stopped ∙ ap (λ x. stopped_under x c.number-worker.result) c.value_mut.ensures.value)
    c.number-worker.ensures

pub returns-in-None-clause-visit : goal.returns-in-None-clause-visit
returns-in-None-clause-visit g c =
    let v = c.args.pass.seat.me.0 in let h = c.in-Ok.held in let new = c.put_then_claim-claim.new.trace in
    record {
      follows = follows v c.give-pass.result.seat.me.0 h.seat.me.0 c.in-Ok.ensures.view.0 h.value new
          c.in-Ok.ensures.value c.in-Ok.ensures.view.1 c.give-pass.ensures.given
          (omega (arith, c.args.pass.within.1, c.args.pass.numbers.0))
          (omega (arith, c.args.pass.within.0, c.args.pass.within.2, c.args.pass.numbers.0))
          (subst (λ x. Adds trace_log v.low x new) c.value_mut.ensures.value
          (subst (λ n. Adds trace_log n c.value_mut.result.now new) c.number-worker.ensures
          c.put_then_claim-claim.ensures.adds))
          c.put_then_claim-claim.ensures.shared;
      claimed = tt;
      end = λ _. returns-in-None-clause-memory g c refl;
      going = λ not. absurd (not refl);
      out = λ d out. inl (visit_leaves v c.give-pass.result.seat.me.0 h.seat.me.0 c.in-Ok.ensures.view.0 h.value new d
          c.in-Ok.ensures.view.1 (c.in-Ok.ensures.work no_work) (c.give-pass.ensures.work no_work)
          (stop_outs h.value new v.low c.number-worker.result d
          (c.in-None.ensures.stopped
          ∙ ap (λ x. stopped_under x c.number-worker.result) c.value_mut.ensures.value)) out);
    }

pub returns-in-None-clause-kept : goal.returns-in-None-clause-kept
returns-in-None-clause-kept g c _ =
    let v = c.args.pass.seat.me.0 in let h = c.in-Ok.held in let new = c.put_then_claim-claim.new.trace in
    own_left v.low v c.give-pass.result.seat.me.0 h.seat.me.0 h.value new c.give-pass.ensures.given
    (ap (λ t. t.entries) (c.in-None.ensures.stopped
    ∙ ap (λ x. stopped_under x c.number-worker.result) c.value_mut.ensures.value))
    (c.in-Ok.ensures.own v.low (omega arith, omega (arith, c.args.pass.within.0, c.args.pass.numbers.1)))

pub returns-in-Err-clause-visit : goal.returns-in-Err-clause-visit
returns-in-Err-clause-visit g c =
    visit_spent c.args.pass.seat.me.0 c.in-Err.pass.seat.me.0 c.in-Err.ensures.spent.1

pub returns-in-Err-clause-kept : goal.returns-in-Err-clause-kept
returns-in-Err-clause-kept g c _ =
    own_ended c.args.pass.seat.me.0.low c.args.pass.seat.me.0 c.in-Err.pass.seat.me.0 c.in-Err.ensures.spent.1
