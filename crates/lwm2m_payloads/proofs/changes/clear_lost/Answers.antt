use Rattle.std.proofs.Common.{◌≡◌, Bool, true, false, drop, Ok, Err, Result, refl, sym, ap, ◌∙◌}
use Rattle.std.proofs.Common.{if◌then◌else◌}
use Rattle.instance_store.specs.declared.fault.StoreFault.{StoreFault}
use Rattle.instance_store.specs.Stored.{has_instance, instance_of}
use Rattle.lwm2m_payloads.proofs.Apart.{lost_present}
use Rattle.lwm2m_payloads.proofs.changes.clear_lost.Goals as goal

is_absent : (b : Bool) (fault other : StoreFault)
    → ◌≡◌ {A = Result (Unit {0}) StoreFault} (Err fault) (if b then Ok tt else Err other) → b ≡ false
is_absent true fault other h = absurd cc
is_absent false fault other h = refl

pub returns-in_err-clear_resource-clause-absent : goal.returns-in_err-clear_resource-clause-absent
returns-in_err-clear_resource-clause-absent c = λ h.
    sym (lost_present c.args.resources.now c.args.store.now c.args.place c.args.given.now c.args.place)
    ∙ sym (ap (λ s. has_instance s c.args.place) c.loop-definition.invariant.left)
    ∙ lost_present (drop c.loop-definition.definition-index c.args.resources.now) c.loop-definition.store c.args.place
    c.args.given.now c.args.place
    ∙ sym (ap (λ p. has_instance c.loop-definition.store (instance_of p)) c.resource_path.ensures)
    ∙ is_absent (has_instance c.loop-definition.store (instance_of c.resource_path.result)) _ _
    c.in_err-clear_resource.ensures.answer
