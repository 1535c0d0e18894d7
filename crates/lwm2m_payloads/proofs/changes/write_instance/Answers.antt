use Rattle.std.proofs.Common.{sym, ap, ◌∙◌}
use Rattle.instance_store.specs.Stored.{has_instance}
use Rattle.lwm2m_payloads.specs.Changes.{has_new}
use Rattle.lwm2m_payloads.specs.declared.given.Mode.TheVariants.{Replace}
use Rattle.lwm2m_payloads.proofs.Apart.{lost_present, lost_new}
use Rattle.lwm2m_payloads.proofs.changes.write_instance.Goals as goal

pub returns-in_ok-clear_lost-in-Replace-clause-absent : goal.returns-in_ok-clear_lost-in-Replace-clause-absent
returns-in_ok-clear_lost-in-Replace-clause-absent c = λ h.
    sym (lost_present c.args.resources.now c.args.store.now c.args.place c.args.given c.args.place)
    ∙ ap (λ s. has_instance s c.args.place) (sym c.in_ok-clear_lost-in-Replace.ensures.ok)
    ∙ c.set_all.ensures.absent h

pub returns-in_ok-clear_lost-in-Replace-clause-may_lack_memory :
    goal.returns-in_ok-clear_lost-in-Replace-clause-may_lack_memory
returns-in_ok-clear_lost-in-Replace-clause-may_lack_memory c = λ h.
    ap (λ m. has_new m c.args.resources.now c.args.store.now c.args.place c.args.given) c.in-Replace.is
    ∙ sym (lost_new Replace c.args.resources.now c.args.store.now c.args.place c.args.given)
    ∙ ap (λ s. has_new Replace c.args.resources.now s c.args.place c.args.given)
    (sym c.in_ok-clear_lost-in-Replace.ensures.ok)
    ∙ c.set_all.ensures.may_lack_memory h
