use Rattle.std.proofs.Common.{sym, ap, ◌∙◌}
use Rattle.lwm2m_payloads.specs.Changes.{gives_new, is_too_many}
use Rattle.lwm2m_payloads.specs.declared.given.Given.TheVariants.{Parts}
use Rattle.lwm2m_payloads.specs.declared.given.Mode.TheVariants.{Replace, Update}
use Rattle.lwm2m_payloads.proofs.Apart.{cleared}
use Rattle.lwm2m_payloads.proofs.New.{some_new}
use Rattle.lwm2m_payloads.proofs.changes.set_given.Goals as goal

pub returns-in_ok-clear_resource-in-Replace-clause-full : goal.returns-in_ok-clear_resource-in-Replace-clause-full
returns-in_ok-clear_resource-in-Replace-clause-full c = λ h.
    ap (λ m. is_too_many m c.args.store.now c.args.path c.args.given) c.in-Replace.is
    ∙ ap (λ g. is_too_many Replace c.args.store.now c.args.path g) c.in-Parts.is
    ∙ sym (cleared c.args.store.now c.args.path c.in-Parts.parts)
    ∙ ap (λ s. is_too_many Update s c.args.path (Parts c.in-Parts.parts))
    (sym c.in_ok-clear_resource-in-Replace.ensures.ok)
    ∙ c.put_parts.ensures.full h

pub returns-in_ok-clear_resource-in-Replace-clause-may_lack_memory :
    goal.returns-in_ok-clear_resource-in-Replace-clause-may_lack_memory
returns-in_ok-clear_resource-in-Replace-clause-may_lack_memory c = λ h.
    ap (λ m. gives_new m c.args.store.now c.args.path c.args.given) c.in-Replace.is
    ∙ ap (λ g. gives_new Replace c.args.store.now c.args.path g) c.in-Parts.is
    ∙ some_new c.args.store.now c.args.path c.in-Parts.parts
    (ap (λ s. gives_new Update s c.args.path (Parts c.in-Parts.parts))
    (sym c.in_ok-clear_resource-in-Replace.ensures.ok)
    ∙ c.put_parts.ensures.may_lack_memory h)
