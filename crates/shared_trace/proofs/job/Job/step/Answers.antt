use Rattle.std.proofs.Common.{◌≡◌, true, false, refl, sym, ap, subst, ◌∙◌, arith}
use Rattle.fleet_core.specs.Next.{next_of}
use Rattle.fleet_core.specs.Run.{is_enabled}
use Rattle.shared_trace.proofs.Stepping.{going, goes, holds_here, step_here, post_within, table_room, place_room}
use Rattle.shared_trace.proofs.Stepping.{step_made, made_job, made_step}
use Rattle.shared_trace.proofs.job.Job.step.Goals as goal

pub returns-then-not-may_pass-clause-steps : goal.returns-then-not-may_pass-clause-steps
returns-then-not-may_pass-clause-steps c = (
  refl,
  goes c.args.self.now c.self.inside.claimed.value.subject c.self.inside.worker c.self.inside.device
      c.self.inside.claimed.value.entries c.self.inside.entries.items c.self.inside.held c.self.inside.spent
      c.self.inside.known.items c.self.inside.posted.items c.as_slice.result.now c.self.inside.place
      c.self.inside.next false c.self.view_is
      (going c.args.self.now c.self.inside.claimed.value.subject c.self.inside.worker c.self.inside.device
      c.self.inside.claimed.value.entries c.self.inside.entries.items c.self.inside.held c.self.inside.spent
      c.self.inside.known.items c.self.inside.posted.items c.self.inside.place c.self.inside.next c.self.view_is
      c.self.invariant c.requires.ready) c.as_slice.ensures.value
      (sym c.if-not-may_pass.true ∙ c.may_pass.ensures),
)

pub make_entry-requires-clause-holds : goal.make_entry-requires-clause-holds
make_entry-requires-clause-holds c =
    holds_here c.args.self.now c.self.inside.claimed.value.subject c.self.inside.worker c.self.inside.device
    c.self.inside.claimed.value.entries c.self.inside.entries.items c.self.inside.held c.self.inside.spent
    c.self.inside.known.items c.self.inside.posted.items c.self.inside.place c.self.inside.next
    c.args.scenario.now c.self.view_is
    (going c.args.self.now c.self.inside.claimed.value.subject c.self.inside.worker c.self.inside.device
    c.self.inside.claimed.value.entries c.self.inside.entries.items c.self.inside.held c.self.inside.spent
    c.self.inside.known.items c.self.inside.posted.items c.self.inside.place c.self.inside.next c.self.view_is
    c.self.invariant c.requires.ready) c.requires.scenario

pub note_post-requires-clause-within : goal.note_post-requires-clause-within
note_post-requires-clause-within c =
    post_within c.self.inside.claimed.value.subject c.self.inside.worker c.self.inside.device
    c.self.inside.claimed.value.entries c.self.inside.entries.items c.self.inside.held c.self.inside.known.items
    c.self.inside.posted.items c.self.inside.place c.self.inside.next c.in-Some.step.now (going c.args.self.now
    c.self.inside.claimed.value.subject c.self.inside.worker c.self.inside.device
    c.self.inside.claimed.value.entries c.self.inside.entries.items c.self.inside.held c.self.inside.spent
    c.self.inside.known.items c.self.inside.posted.items c.self.inside.place c.self.inside.next c.self.view_is
    c.self.invariant c.requires.ready)
    (step_here c.args.self.now c.self.inside.claimed.value.subject c.self.inside.worker c.self.inside.device
    c.self.inside.claimed.value.entries c.self.inside.entries.items c.self.inside.held c.self.inside.spent
    c.args.scenario.now c.self.inside.place c.in-Some.step.now c.self.view_is c.requires.scenario
    c.in-Some.ensures)

pub note_post-requires-clause-room : goal.note_post-requires-clause-room
note_post-requires-clause-room c =
    table_room c.self.inside.claimed.value.subject c.self.inside.worker c.self.inside.device
    c.self.inside.claimed.value.entries c.self.inside.entries.items c.self.inside.held c.self.inside.known.items
    c.self.inside.posted.items c.self.inside.place c.self.inside.next (going c.args.self.now
    c.self.inside.claimed.value.subject c.self.inside.worker c.self.inside.device
    c.self.inside.claimed.value.entries c.self.inside.entries.items c.self.inside.held c.self.inside.spent
    c.self.inside.known.items c.self.inside.posted.items c.self.inside.place c.self.inside.next c.self.view_is
    c.self.invariant c.requires.ready)

pub overflow_add-self : goal.overflow_add-self
overflow_add-self c =
    let h = place_room c.self.inside.claimed.value.subject c.self.inside.worker c.self.inside.device
    c.self.inside.claimed.value.entries c.self.inside.entries.items c.self.inside.held c.self.inside.known.items
    c.self.inside.posted.items c.self.inside.place c.self.inside.next c.in-Some.step.now
    (going c.args.self.now c.self.inside.claimed.value.subject c.self.inside.worker c.self.inside.device
    c.self.inside.claimed.value.entries c.self.inside.entries.items c.self.inside.held c.self.inside.spent
    c.self.inside.known.items c.self.inside.posted.items c.self.inside.place c.self.inside.next c.self.view_is
    c.self.invariant c.requires.ready)
    (step_here c.args.self.now c.self.inside.claimed.value.subject c.self.inside.worker c.self.inside.device
    c.self.inside.claimed.value.entries c.self.inside.entries.items c.self.inside.held c.self.inside.spent
    c.args.scenario.now c.self.inside.place c.in-Some.step.now c.self.view_is c.requires.scenario
    c.in-Some.ensures) in
    omega (arith, h)

pub returns-in_err-push-clause-began : goal.returns-in_err-push-clause-began
returns-in_err-push-clause-began c =
    subst (λ t. is_enabled t.subject t.front t.device ≡ true) c.self.view_is c.self.invariant.task.began

pub invariant_of-self-2 : goal.invariant_of-self-2
invariant_of-self-2 c =
    made_job c.self.inside.claimed.value.subject c.self.inside.worker c.self.inside.device
    c.self.inside.claimed.value.entries c.self.inside.entries.items c.push.new.self.items
    c.self.inside.held c.make_entry.new.held c.self.inside.known.items c.self.inside.posted.items
    c.note_post.new.posts.items c.push_group.new.groups.items c.self.inside.place c.self.inside.next
    c.next_of-self-inside.result c.in-Some.step.now c.in_ok-entry.entry
    (going c.args.self.now c.self.inside.claimed.value.subject c.self.inside.worker c.self.inside.device
    c.self.inside.claimed.value.entries c.self.inside.entries.items c.self.inside.held c.self.inside.spent
    c.self.inside.known.items c.self.inside.posted.items c.self.inside.place c.self.inside.next c.self.view_is
    c.self.invariant c.requires.ready)
    (step_made c.args.self.now c.self.inside.claimed.value.subject c.self.inside.worker c.self.inside.device
    c.self.inside.claimed.value.entries c.self.inside.entries.items c.self.inside.held c.make_entry.new.held
    c.self.inside.spent c.self.inside.known.items c.self.inside.posted.items c.as_slice.result.now
    c.note_post.new.posts.items c.push_group.new.groups.items c.self.inside.place c.self.inside.next
    c.next_of-self-inside.result c.args.scenario.now c.in-Some.step.now c.in_ok-entry.entry c.self.view_is
    (going c.args.self.now c.self.inside.claimed.value.subject c.self.inside.worker c.self.inside.device
    c.self.inside.claimed.value.entries c.self.inside.entries.items c.self.inside.held c.self.inside.spent
    c.self.inside.known.items c.self.inside.posted.items c.self.inside.place c.self.inside.next c.self.view_is
    c.self.invariant c.requires.ready)
    c.requires.scenario c.in-Some.ensures c.as_slice.ensures.value (sym c.if-not-may_pass.false ∙ c.may_pass.ensures)
    c.in_ok-entry.ensures.entry c.in_ok-entry.ensures.holds c.note_post.ensures c.in_ok-push_group.ensures
    (c.next_of-self-inside.ensures ∙ ap next_of c.step_of-next.ensures))
    c.in_ok-push.ensures.items

pub returns-clause-steps : goal.returns-clause-steps
returns-clause-steps c =
    made_step c.args.self.now c.self.inside.claimed.value.subject c.self.inside.worker c.self.inside.device
    c.self.inside.claimed.value.entries c.self.inside.entries.items c.push.new.self.items
    c.self.inside.held c.make_entry.new.held c.self.inside.spent c.self.inside.known.items
    c.self.inside.posted.items c.note_post.new.posts.items c.push_group.new.groups.items c.self.inside.place
    c.self.inside.next c.next_of-self-inside.result c.in-Some.step.now c.in_ok-entry.entry c.self.view_is
    (going c.args.self.now c.self.inside.claimed.value.subject c.self.inside.worker c.self.inside.device
    c.self.inside.claimed.value.entries c.self.inside.entries.items c.self.inside.held c.self.inside.spent
    c.self.inside.known.items c.self.inside.posted.items c.self.inside.place c.self.inside.next c.self.view_is
    c.self.invariant c.requires.ready)
    (step_made c.args.self.now c.self.inside.claimed.value.subject c.self.inside.worker c.self.inside.device
    c.self.inside.claimed.value.entries c.self.inside.entries.items c.self.inside.held c.make_entry.new.held
    c.self.inside.spent c.self.inside.known.items c.self.inside.posted.items c.as_slice.result.now
    c.note_post.new.posts.items c.push_group.new.groups.items c.self.inside.place c.self.inside.next
    c.next_of-self-inside.result c.args.scenario.now c.in-Some.step.now c.in_ok-entry.entry c.self.view_is
    (going c.args.self.now c.self.inside.claimed.value.subject c.self.inside.worker c.self.inside.device
    c.self.inside.claimed.value.entries c.self.inside.entries.items c.self.inside.held c.self.inside.spent
    c.self.inside.known.items c.self.inside.posted.items c.self.inside.place c.self.inside.next c.self.view_is
    c.self.invariant c.requires.ready)
    c.requires.scenario c.in-Some.ensures c.as_slice.ensures.value (sym c.if-not-may_pass.false ∙ c.may_pass.ensures)
    c.in_ok-entry.ensures.entry c.in_ok-entry.ensures.holds c.note_post.ensures c.in_ok-push_group.ensures
    (c.next_of-self-inside.ensures ∙ ap next_of c.step_of-next.ensures))
    c.in_ok-push.ensures.items

pub returns-clause-began : goal.returns-clause-began
returns-clause-began c =
    subst (λ t. is_enabled t.subject t.front t.device ≡ true) c.self.view_is c.self.invariant.task.began
