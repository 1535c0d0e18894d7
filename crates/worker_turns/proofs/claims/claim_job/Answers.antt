use Rattle.std.proofs.Common.{ap, subst, ◌∙◌, arith}
use Rattle.ticket_lock.specs.Log.{Adds}
use Rattle.shared_trace.specs.Trace.{work_by, no_work, trace_log}
use Rattle.shared_trace.specs.Claims.{Claims, ClaimStands}
use Rattle.worker_visits.specs.Knowing.{Gets}
use Rattle.worker_visits.proofs.Following.{follows, has_claimed}
use Rattle.worker_visits.proofs.Blocks.{own_left, own_ended, claim_leaves}
use Rattle.worker_visits.proofs.Outs.{claim_outs, visit_outs}
use Rattle.worker_visits.proofs.Stops.{claim_keeps, still_going, ended_going}
use Rattle.worker_visits.proofs.Visiting.{visit_spent}
use Rattle.worker_turns.proofs.claims.claim_job.Goals as goal

pub returns-in-Ok-clause-going : goal.returns-in-Ok-clause-going
returns-in-Ok-clause-going g c =
    let h = c.in-Ok.held in let new = c.claim-claim.new.self in
    still_going c.args.pass.seat.me.0 c.give-pass.result.seat.me.0 h.seat.me.0 c.in-Ok.ensures.view.0 h.value new
    c.in-Ok.ensures.view.1 (c.in-Ok.ensures.work no_work) (c.give-pass.ensures.work no_work)
    (claim_keeps c.value_mut.result.now new _ c.claim-claim.result c.claim-claim.ensures.claims
    ∙ ap (λ x. x.stopped_by) c.value_mut.ensures.value)

pub returns-in-Ok-clause-visit : goal.returns-in-Ok-clause-visit
returns-in-Ok-clause-visit g c =
    let v = c.args.pass.seat.me.0 in let h = c.in-Ok.held in let new = c.claim-claim.new.self in let claim =
    c.claim-claim.result in
    let claims : Claims h.value new v.low claim =
    subst (λ x. Claims x new v.low claim) c.value_mut.ensures.value
    (subst (λ n. Claims c.value_mut.result.now new n claim) c.number-worker.ensures c.claim-claim.ensures.claims) in
    record {
      follows = follows v c.give-pass.result.seat.me.0 h.seat.me.0 c.in-Ok.ensures.view.0 h.value new
          c.in-Ok.ensures.value c.in-Ok.ensures.view.1 c.give-pass.ensures.given
          (omega (arith, c.args.pass.within.1, c.args.pass.numbers.0))
          (omega (arith, c.args.pass.within.0, c.args.pass.within.2, c.args.pass.numbers.0))
          (subst (λ x. Adds trace_log v.low x new) c.value_mut.ensures.value
          (subst (λ n. Adds trace_log n c.value_mut.result.now new) c.number-worker.ensures
          c.claim-claim.ensures.adds))
          c.claim-claim.ensures.shared;
      claimed = has_claimed v c.give-pass.result.seat.me.0 h.seat.me.0 c.in-Ok.ensures.view.0 h.value new claim
          c.in-Ok.ensures.value c.in-Ok.ensures.view.1 c.give-pass.ensures.given
          (c.give-pass.ensures.work no_work ∙ ap (λ u. work_by new u.low) c.in-Ok.ensures.view.1) claims
          (subst (λ n. ClaimStands new n claim) c.number-worker.ensures c.claim-claim.ensures.stands);
      end = tt;
      going = λ _. returns-in-Ok-clause-going g c;
      out = λ d. visit_outs v c.give-pass.result.seat.me.0 h.seat.me.0 c.in-Ok.ensures.view.0 h.value new
          (Gets claim d) d c.in-Ok.ensures.view.1 (c.in-Ok.ensures.work no_work) (c.give-pass.ensures.work no_work)
          (claim_outs h.value new v.low claim d claims);
    }

pub returns-in-Ok-clause-own : goal.returns-in-Ok-clause-own
returns-in-Ok-clause-own g c n has =
    let new = c.claim-claim.new.self in
    own_left n c.args.pass.seat.me.0 c.give-pass.result.seat.me.0 c.in-Ok.held.seat.me.0 c.in-Ok.held.value new
    c.give-pass.ensures.given
    (claim_leaves c.value_mut.result.now new _ c.claim-claim.result c.claim-claim.ensures.claims
    ∙ ap (λ x. x.entries) c.value_mut.ensures.value) (c.in-Ok.ensures.own n has)

pub returns-in-Err-clause-visit : goal.returns-in-Err-clause-visit
returns-in-Err-clause-visit g c =
    visit_spent c.args.pass.seat.me.0 c.in-Err.pass.seat.me.0 c.in-Err.ensures.spent.1

pub returns-in-Err-clause-own : goal.returns-in-Err-clause-own
returns-in-Err-clause-own g c n has =
    own_ended n c.args.pass.seat.me.0 c.in-Err.pass.seat.me.0 c.in-Err.ensures.spent.1

pub returns-in-Err-clause-going : goal.returns-in-Err-clause-going
returns-in-Err-clause-going g c = ended_going c.args.pass.seat.me.0 c.in-Err.pass.seat.me.0 c.in-Err.ensures.spent.1
