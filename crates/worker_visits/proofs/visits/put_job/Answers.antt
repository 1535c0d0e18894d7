use Rattle.std.proofs.Common.{sym, ap, subst, ◌∙◌, arith}
use Rattle.ticket_lock.specs.Log.{Adds}
use Rattle.shared_trace.specs.Trace.{with_block, stopped_under, no_work, trace_log}
use Rattle.shared_trace.specs.Job.{MayPut}
use Rattle.worker_visits.proofs.Following.{follows, follows_ended, may_put, is_put}
use Rattle.worker_visits.proofs.Blocks.{own_left, own_ended, own_block, own_put}
use Rattle.worker_visits.proofs.Stops.{still_going, now_stopped, ended_going}
use Rattle.worker_visits.proofs.visits.put_job.Goals as goal
use Rattle.worker_visits.proofs.visits.put_job.Goals.{then-is_put, else-is_put}

pub put_or_stop-is_put-requires : goal.put_or_stop-is_put-requires
put_or_stop-is_put-requires g c =
    let v = c.args.pass.seat.me.0 in let h = c.in-Ok.held in
    subst (λ n. MayPut c.value_mut.result.now n c.args.job) (sym c.number-worker.ensures)
    (subst (λ x. MayPut x v.low c.args.job) (sym c.value_mut.ensures.value)
    (may_put v h.value c.args.job c.in-Ok.ensures.value c.requires.knows
    (c.in-Ok.ensures.work no_work) c.requires.ready))

pub returns-after-is_put-clause-follows : goal.returns-after-is_put-clause-follows
returns-after-is_put-clause-follows g c =
    let v = c.args.pass.seat.me.0 in let h = c.in-Ok.held in let new = c.put_or_stop-is_put.new.trace in
    follows v c.give-pass.result.seat.me.0 h.seat.me.0 c.in-Ok.ensures.view.0 h.value new c.in-Ok.ensures.value
    c.in-Ok.ensures.view.1 c.give-pass.ensures.given
    (omega (arith, c.args.pass.within.1, c.args.pass.numbers.0))
    (omega (arith, c.args.pass.within.0, c.args.pass.within.2, c.args.pass.numbers.0))
    (subst (λ x. Adds trace_log v.low x new) c.value_mut.ensures.value
    (subst (λ n. Adds trace_log n c.value_mut.result.now new) c.number-worker.ensures
    c.put_or_stop-is_put.ensures.adds))
    c.put_or_stop-is_put.ensures.shared

pub returns-after-is_put-clause-put : goal.returns-after-is_put-clause-put
returns-after-is_put-clause-put g c made =
    let v = c.args.pass.seat.me.0 in let h = c.in-Ok.held in let new = c.put_or_stop-is_put.new.trace in let job =
    c.args.job in
    elim c.if-is_put.branch [
      | then-is_put w ↦
          is_put v c.give-pass.result.seat.me.0 h.seat.me.0 c.in-Ok.ensures.view.0 h.value new job c.in-Ok.ensures.value
          c.in-Ok.ensures.view.1 c.give-pass.ensures.given
          (c.in-Ok.ensures.own v.low (omega arith, omega (arith, c.args.pass.within.0, c.args.pass.numbers.1)))
          (ap (λ t. t.entries) (c.put_or_stop-is_put.ensures.put w.if-is_put.true
          ∙ ap (λ x. with_block x job.device job.held job.entries) c.value_mut.ensures.value))
      | else-is_put w ↦ (let e = sym made ∙ w.put-is in absurd cc)
    ]

pub returns-after-is_put-clause-own : goal.returns-after-is_put-clause-own
returns-after-is_put-clause-own g c made =
    let v = c.args.pass.seat.me.0 in let h = c.in-Ok.held in let new = c.put_or_stop-is_put.new.trace in let job =
    c.args.job in
    elim c.if-is_put.branch [
      | then-is_put w ↦
          own_put v.low v.front job.entries c.give-pass.result.seat.me.0.front
          (returns-after-is_put-clause-put g c made)
          (own_block v.low h.value new job
          (subst (λ x. Adds trace_log v.low x new) c.value_mut.ensures.value
          (subst (λ n. Adds trace_log n c.value_mut.result.now new) c.number-worker.ensures
          c.put_or_stop-is_put.ensures.adds))
          (ap (λ t. t.entries) (c.put_or_stop-is_put.ensures.put w.if-is_put.true
          ∙ ap (λ x. with_block x job.device job.held job.entries) c.value_mut.ensures.value)))
      | else-is_put w ↦ (let e = sym made ∙ w.put-is in absurd cc)
    ]

pub returns-after-is_put-clause-kept : goal.returns-after-is_put-clause-kept
returns-after-is_put-clause-kept g c not =
    let v = c.args.pass.seat.me.0 in let h = c.in-Ok.held in let new = c.put_or_stop-is_put.new.trace in
    elim c.if-is_put.branch [
      | then-is_put w ↦ absurd (not w.put-is)
      | else-is_put w ↦
          own_left v.low v c.give-pass.result.seat.me.0 h.seat.me.0 h.value new c.give-pass.ensures.given
          (ap (λ t. t.entries)
          (c.put_or_stop-is_put.ensures.stopped w.if-is_put.false
          ∙ ap (λ x. stopped_under x c.number-worker.result) c.value_mut.ensures.value))
          (c.in-Ok.ensures.own v.low (omega arith, omega (arith, c.args.pass.within.0, c.args.pass.numbers.1)))
    ]

pub returns-in-Err-clause-follows : goal.returns-in-Err-clause-follows
returns-in-Err-clause-follows g c = follows_ended c.args.pass.seat.me.0 c.in-Err.pass.seat.me.0 c.in-Err.ensures.spent.1

pub returns-in-Err-clause-kept : goal.returns-in-Err-clause-kept
returns-in-Err-clause-kept g c not =
    own_ended c.args.pass.seat.me.0.low c.args.pass.seat.me.0 c.in-Err.pass.seat.me.0 c.in-Err.ensures.spent.1

pub returns-after-is_put-clause-memory : goal.returns-after-is_put-clause-memory
returns-after-is_put-clause-memory g c memory =
    let v = c.args.pass.seat.me.0 in let h = c.in-Ok.held in let new = c.put_or_stop-is_put.new.trace in
    elim c.if-is_put.branch [
      | then-is_put w ↦ (let e = sym memory ∙ w.put-is in absurd cc)
      | else-is_put w ↦
          now_stopped v c.give-pass.result.seat.me.0 h.seat.me.0 c.in-Ok.ensures.view.0 c.number-worker.result
          h.value new c.in-Ok.ensures.view.1 (c.give-pass.ensures.work no_work)
          (c.put_or_stop-is_put.ensures.stopped w.if-is_put.false
          ∙ ap (λ x. stopped_under x c.number-worker.result) c.value_mut.ensures.value)
          c.number-worker.ensures
    ]

pub returns-after-is_put-clause-going : goal.returns-after-is_put-clause-going
returns-after-is_put-clause-going g c not =
    let v = c.args.pass.seat.me.0 in let h = c.in-Ok.held in let new = c.put_or_stop-is_put.new.trace in
    elim c.if-is_put.branch [
      | then-is_put w ↦
          still_going v c.give-pass.result.seat.me.0 h.seat.me.0 c.in-Ok.ensures.view.0 h.value new
          c.in-Ok.ensures.view.1 (c.in-Ok.ensures.work no_work) (c.give-pass.ensures.work no_work)
          (ap (λ t. t.stopped_by) (c.put_or_stop-is_put.ensures.put w.if-is_put.true)
          ∙ ap (λ x. x.stopped_by) c.value_mut.ensures.value)
      | else-is_put w ↦ absurd (not w.put-is)
    ]

pub returns-in-Err-clause-going : goal.returns-in-Err-clause-going
returns-in-Err-clause-going g c not =
    ended_going c.args.pass.seat.me.0 c.in-Err.pass.seat.me.0 c.in-Err.ensures.spent.1
