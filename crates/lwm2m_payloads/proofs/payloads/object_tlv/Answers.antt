use Rattle.std.proofs.Common.{sym, ap, subst, ◌∙◌}
use Rattle.lwm2m_values.specs.Tlv.{AreNested}
use Rattle.lwm2m_values.specs.Tree.{trees_of}
use Rattle.lwm2m_values.specs.declared.level.Around.TheVariants.{Top}
use Rattle.lwm2m_payloads.proofs.Least.{instances_past}
use Rattle.lwm2m_payloads.proofs.Nesting.{nested_object}
use Rattle.lwm2m_payloads.proofs.payloads.object_tlv.Goals as goal

pub returns-in_default : goal.returns-in_default
returns-in_default c =
    instances_past c.args.store.now c.args.resources.now c.args.object c.args.instances.now
    (rw c.in_default.is at c.in_ok-found.ensures.fits)

pub tlv_of-requires : goal.tlv_of-requires
tlv_of-requires c =
    subst (AreNested Top)
    (sym (ap trees_of c.as_slice.ensures.value ∙ rw c.in-Some.is at c.in_ok-found.ensures.records))
    (nested_object c.args.store.now c.args.resources.now c.args.object c.args.instances.now)
