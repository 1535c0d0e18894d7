use Rattle.std.proofs.Common.{◌≤◌, ◌+◌, ◌-◌, ◌∙◌, ap, arith, refl, subst, sym}
use Rattle.std.specs.Prelude.{vec_capacity, vec_len}
use Rattle.lemmas.proofs.Results.{on_err}
use Rattle.notifier.specs.Said.{Watch}
use Rattle.device_notifications.specs.Outbox.{HasRoom, Outbox, empty}
use Rattle.device_notifications.specs.Progress.{StopsIn}
use Rattle.device_notifications.proofs.Jumps.{HavePassed, acts_in_all, finished, jumped, none_passed, stopped_at}
use Rattle.device_notifications.proofs.sweep.seconds.Goals as goal

pub loop-due-init : goal.loop-due-init
loop-due-init g c = (
  subst (λ (box : Outbox). HavePassed c.args.client.now c.args.clock c.args.observations.now.list (empty c.args.next_id)
      (c.args.clock - c.args.clock) c.args.observations.now.list box) (sym c.new-outbox.ensures)
      (none_passed c.args.client.now c.args.clock _ c.args.observations.now.list (empty c.args.next_id) (omega arith)),
  c.requires.known,
  omega arith,
  omega arith,
  refl,
  subst (λ (box : Outbox). HasRoom box.sent (vec_len c.args.list.now) (vec_capacity c.args.list.now))
      (sym c.new-outbox.ensures) (λ more. absurd (omega (arith, more))),
)

pub loop-due-preserved : goal.loop-due-preserved
loop-due-preserved g c =
    let first = c.in-Some.ensures.0 in
    let since = c.loop-due.invariant.2 in
    let later = first.later in
    let within : c.in-Some.due ≤ c.args.clock + c.args.count = omega (arith, c.in-Some.ensures.1, c.from.ensures) in (
      jumped c.args.client.now c.args.clock c.args.count c.loop-due.now c.in-Some.due c.args.observations.now.list
          c.loop-due.observations.list c.loop-due.observations.said c.second.new.observations.list
          (empty c.args.next_id)
          c.loop-due.outbox c.second.new.outbox since within c.loop-due.invariant.1 first
          c.in_ok-second.ensures.done c.loop-due.invariant.0,
      c.in_ok-second.ensures.known,
      omega (arith, since, later),
      within,
      c.second.ensures.items ∙ c.loop-due.invariant.4,
      c.in_ok-second.ensures.room,
    )

pub returns-in_err-second-clause-known : goal.returns-in_err-second-clause-known
returns-in_err-second-clause-known g c = c.in_err-second.ensures.known

pub returns-in_err-second-clause-stops : goal.returns-in_err-second-clause-stops
returns-in_err-second-clause-stops g c =
    let within : c.in-Some.due ≤ c.args.clock + c.args.count = omega (arith, c.in-Some.ensures.1, c.from.ensures) in
    on_err c.from_residual.result _
    (subst (λ (w : Watch). StopsIn c.args.client.now c.args.clock c.args.count c.args.next_id
    c.args.observations.now.list w.list) (sym c.in_err-second.ensures.unchanged)
    (stopped_at c.args.client.now c.args.clock c.args.count c.loop-due.now c.in-Some.due c.args.observations.now.list
    c.loop-due.observations.list c.loop-due.observations.said (empty c.args.next_id) c.loop-due.outbox
    c.loop-due.invariant.2 within c.loop-due.invariant.1 c.in-Some.ensures.0 c.loop-due.invariant.0))

pub returns-in_err-second-clause-may_lack_memory : goal.returns-in_err-second-clause-may_lack_memory
returns-in_err-second-clause-may_lack_memory g c =
    let within : c.in-Some.due ≤ c.args.clock + c.args.count = omega (arith, c.in-Some.ensures.1, c.from.ensures) in
    on_err c.from_residual.result _
    (acts_in_all c.args.client.now c.args.clock c.args.count c.args.next_id c.args.observations.now.list
    c.loop-due.observations.list
    (stopped_at c.args.client.now c.args.clock c.args.count c.loop-due.now c.in-Some.due c.args.observations.now.list
    c.loop-due.observations.list c.loop-due.observations.said (empty c.args.next_id) c.loop-due.outbox
    c.loop-due.invariant.2 within c.loop-due.invariant.1 c.in-Some.ensures.0 c.loop-due.invariant.0))

pub returns-clause-done : goal.returns-clause-done
returns-clause-done g c =
    finished c.args.client.now c.args.clock c.args.count c.loop-due.now (c.args.clock + c.from.result)
    c.args.observations.now.list c.loop-due.observations.list c.loop-due.observations.said (empty c.args.next_id)
    c.loop-due.outbox c.loop-due.invariant.2 c.loop-due.invariant.3 (ap (λ n. c.args.clock + n) c.from.ensures)
    c.loop-due.invariant.1 c.in_default.ensures c.loop-due.invariant.0
