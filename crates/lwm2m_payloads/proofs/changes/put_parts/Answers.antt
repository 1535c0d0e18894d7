use Rattle.std.proofs.Common.{Err, ◌∷◌, ◌++◌, [], sym, ap, ◌∙◌, append_assoc}
use Rattle.std.proofs.lemmas.Result.{err_from_is_err_and}
use Rattle.object_defs.specs.Path.{part_of}
use Rattle.instance_store.specs.Stored.{value_at, with_value, has_instance, instance_of, is_full}
use Rattle.lwm2m_payloads.proofs.New.{part_new}
use Rattle.lwm2m_payloads.proofs.Room.{full_means, parts_present}
use Rattle.lwm2m_payloads.proofs.Writing.{with_parts-push}
use Rattle.lwm2m_payloads.proofs.changes.put_parts.Goals as goal

pub loop-part-preserved : goal.loop-part-preserved
loop-part-preserved c = record {
  set = c.in_ok-put_part.ensures.ok
      ∙ ap (λ s. with_value s (part_of c.args.path c.in-Some.part) c.in-Some.value) c.loop-part.invariant.set
      ∙ sym (with_parts-push c.args.store.now c.args.path c.loop-part.yielded (c.in-Some.part, c.in-Some.value));
  left = c.loop-part.invariant.left ∙ ap (λ t. c.loop-part.yielded ++ t) c.in-Some.ensures.steps.0
      ∙ sym (append_assoc c.loop-part.yielded ((c.in-Some.part, c.in-Some.value) ∷ []) c.next.new.self.rest.items);
}

pub returns-in_err-put_part-clause-absent : goal.returns-in_err-put_part-clause-absent
returns-in_err-put_part-clause-absent c = λ h.
    let p = err_from_is_err_and c.from_residual.result c.from_residual.ensures.1 in
    sym (ap (λ s. has_instance s (instance_of c.args.path)) c.loop-part.invariant.set
    ∙ parts_present c.loop-part.yielded c.args.store.now c.args.path (instance_of c.args.path))
    ∙ c.in_err-put_part.ensures.absent.0 (ap Err (sym p.2) ∙ sym p.1 ∙ h)

pub returns-in_err-put_part-clause-full : goal.returns-in_err-put_part-clause-full
returns-in_err-put_part-clause-full c = λ h.
    let p = err_from_is_err_and c.from_residual.result c.from_residual.ensures.1 in
    let full = c.in_err-put_part.ensures.full.0 (ap Err (sym p.2) ∙ sym p.1 ∙ h) in
    full_means c.args.store.now c.args.path c.args.parts c.loop-part.yielded
    (c.in-Some.part, c.in-Some.value) c.next.new.self.rest.items
    (c.loop-part.invariant.left ∙ ap (λ t. c.loop-part.yielded ++ t) c.in-Some.ensures.steps.0)
    (ap (λ s. is_full s c.args.path c.in-Some.part) (sym c.loop-part.invariant.set) ∙ full.1)

pub returns-in_err-put_part-clause-may_lack_memory : goal.returns-in_err-put_part-clause-may_lack_memory
returns-in_err-put_part-clause-may_lack_memory c = λ h.
    let p = err_from_is_err_and c.from_residual.result c.from_residual.ensures.1 in
    part_new c.args.store.now c.args.path c.args.parts c.loop-part.yielded
    (c.in-Some.part, c.in-Some.value) c.next.new.self.rest.items
    (c.loop-part.invariant.left ∙ ap (λ t. c.loop-part.yielded ++ t) c.in-Some.ensures.steps.0)
    (ap (λ s. value_at s (part_of c.args.path c.in-Some.part)) (sym c.loop-part.invariant.set)
    ∙ c.in_err-put_part.ensures.may_lack_memory (ap Err (sym p.2) ∙ sym p.1 ∙ h))
