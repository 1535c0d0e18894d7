use Rattle.std.proofs.Common.{ap, ◌∙◌}
use Rattle.shared_trace.specs.Trace.{stopped_under, no_work}
use Rattle.worker_visits.proofs.Blocks.{own_left, own_ended}
use Rattle.worker_visits.proofs.Outs.{stop_outs, visit_leaves, ended_outs}
use Rattle.worker_visits.proofs.Stops.{now_stopped}
use Rattle.worker_visits.proofs.visits.stop_trace.Goals as goal

pub returns-in-Ok-clause-own : goal.returns-in-Ok-clause-own
returns-in-Ok-clause-own g c n has =
    own_left n c.args.pass.seat.me.0 c.give.result.seat.me.0 c.in-Ok.held.seat.me.0 c.in-Ok.held.value c.stop.new.self
    c.give.ensures.given
    (ap (λ t. t.entries) (c.stop.ensures.stopped
    ∙ ap (λ x. stopped_under x c.number-worker.result) c.value_mut.ensures.value)) (c.in-Ok.ensures.own n has)

pub returns-in-Err-clause-own : goal.returns-in-Err-clause-own
returns-in-Err-clause-own g c n has =
    own_ended n c.args.pass.seat.me.0 c.in-Err.pass.seat.me.0 c.in-Err.ensures.spent.1

pub returns-in-Ok-clause-stopped : goal.returns-in-Ok-clause-stopped
returns-in-Ok-clause-stopped g c _ =
    let h = c.in-Ok.held in
    now_stopped c.args.pass.seat.me.0 c.give.result.seat.me.0 h.seat.me.0 c.in-Ok.ensures.view.0
    c.number-worker.result h.value c.stop.new.self c.in-Ok.ensures.view.1 (c.give.ensures.work no_work)
    (c.stop.ensures.stopped ∙ ap (λ x. stopped_under x c.number-worker.result) c.value_mut.ensures.value)
    c.number-worker.ensures

pub returns-in-Ok-clause-out : goal.returns-in-Ok-clause-out
returns-in-Ok-clause-out g c d =
    let v = c.args.pass.seat.me.0 in let h = c.in-Ok.held in let new = c.stop.new.self in
    visit_leaves v c.give.result.seat.me.0 h.seat.me.0 c.in-Ok.ensures.view.0 h.value new d
    c.in-Ok.ensures.view.1 (c.in-Ok.ensures.work no_work) (c.give.ensures.work no_work)
    (stop_outs h.value new v.low c.number-worker.result d
    (c.stop.ensures.stopped ∙ ap (λ x. stopped_under x c.number-worker.result) c.value_mut.ensures.value))

pub returns-in-Err-clause-out : goal.returns-in-Err-clause-out
returns-in-Err-clause-out g c d = ended_outs c.args.pass.seat.me.0 c.in-Err.pass.seat.me.0 d c.in-Err.ensures.spent.1
