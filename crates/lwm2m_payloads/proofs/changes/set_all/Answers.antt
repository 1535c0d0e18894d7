use Rattle.std.proofs.Common.{Err, ◌∷◌, ◌++◌, [], ◌&&◌, sym, ap, ◌∙◌, append_assoc}
use Rattle.std.proofs.lemmas.Result.{err_from_is_err_and}
use Rattle.instance_store.specs.Stored.{has_instance}
use Rattle.lwm2m_payloads.specs.Changes.{gives_new, is_kept, is_too_many, resource_of}
use Rattle.lwm2m_payloads.proofs.Apart.{one_means, one_new, all_present}
use Rattle.lwm2m_payloads.proofs.Writing.{assigned, with_assignments-push}
use Rattle.lwm2m_payloads.proofs.changes.set_all.Goals as goal

pub loop-assignment-preserved : goal.loop-assignment-preserved
loop-assignment-preserved c = record {
  set = c.in_ok-set_assigned.ensures.ok
      ∙ ap (λ s. assigned c.args.mode c.args.resources.now s c.args.place c.in-Some.assignment)
      c.loop-assignment.invariant.set
      ∙ sym (with_assignments-push c.args.mode c.args.resources.now c.args.store.now c.args.place
      c.loop-assignment.yielded c.in-Some.assignment);
  left = c.loop-assignment.invariant.left ∙ ap (λ t. c.loop-assignment.yielded ++ t) c.in-Some.ensures.steps.0
      ∙ sym (append_assoc c.loop-assignment.yielded (c.in-Some.assignment ∷ []) c.next.new.self.rest.items);
}

pub returns-in_err-set_assigned-clause-absent : goal.returns-in_err-set_assigned-clause-absent
returns-in_err-set_assigned-clause-absent c = λ h.
    let p = err_from_is_err_and c.from_residual.result c.from_residual.ensures.1 in
    sym (ap (λ s. has_instance s c.args.place) c.loop-assignment.invariant.set
    ∙ all_present c.args.mode c.args.resources.now c.loop-assignment.yielded c.args.store.now c.args.place
    c.args.place)
    ∙ c.in_err-set_assigned.ensures.absent (ap Err (sym p.2) ∙ sym p.1 ∙ h)

pub returns-in_err-set_assigned-clause-full : goal.returns-in_err-set_assigned-clause-full
returns-in_err-set_assigned-clause-full c = λ h.
    let p = err_from_is_err_and c.from_residual.result c.from_residual.ensures.1 in
    one_means c.args.mode c.args.resources.now c.args.store.now c.args.place c.args.given c.loop-assignment.yielded
    c.in-Some.assignment c.next.new.self.rest.items
    (c.loop-assignment.invariant.left ∙ ap (λ t. c.loop-assignment.yielded ++ t) c.in-Some.ensures.steps.0)
    c.into_vec-assignment-items.ensures.once
    (ap (λ s. is_kept c.args.resources.now c.in-Some.assignment
    && is_too_many c.args.mode s (resource_of c.args.place c.in-Some.assignment.resource)
    c.in-Some.assignment.given) (sym c.loop-assignment.invariant.set)
    ∙ c.in_err-set_assigned.ensures.full (ap Err (sym p.2) ∙ sym p.1 ∙ h))

pub returns-in_err-set_assigned-clause-may_lack_memory : goal.returns-in_err-set_assigned-clause-may_lack_memory
returns-in_err-set_assigned-clause-may_lack_memory c = λ h.
    let p = err_from_is_err_and c.from_residual.result c.from_residual.ensures.1 in
    one_new c.args.mode c.args.resources.now c.args.store.now c.args.place c.args.given c.loop-assignment.yielded
    c.in-Some.assignment c.next.new.self.rest.items
    (c.loop-assignment.invariant.left ∙ ap (λ t. c.loop-assignment.yielded ++ t) c.in-Some.ensures.steps.0)
    c.into_vec-assignment-items.ensures.once
    (ap (λ s. is_kept c.args.resources.now c.in-Some.assignment
    && gives_new c.args.mode s (resource_of c.args.place c.in-Some.assignment.resource)
    c.in-Some.assignment.given) (sym c.loop-assignment.invariant.set)
    ∙ c.in_err-set_assigned.ensures.may_lack_memory (ap Err (sym p.2) ∙ sym p.1 ∙ h))
