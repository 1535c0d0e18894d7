use Rattle.std.proofs.Common.{sym, ap, subst, ◌∙◌}
use Rattle.lwm2m_values.specs.Tlv.{AreNested}
use Rattle.lwm2m_values.specs.Tree.{trees_of}
use Rattle.lwm2m_values.specs.declared.level.Around.TheVariants.{Top}
use Rattle.lwm2m_payloads.specs.Nodes.{shown_in}
use Rattle.lwm2m_payloads.proofs.Least.{values_past}
use Rattle.lwm2m_payloads.proofs.Nesting.{nested}
use Rattle.lwm2m_payloads.proofs.payloads.values_tlv.Goals as goal

pub returns-in_default : goal.returns-in_default
returns-in_default c =
    values_past (shown_in c.args.store.now c.args.resources.now c.args.place)
    (rw c.in_default.is at c.in_ok-nodes.ensures.fits)

pub tlv_of-requires : goal.tlv_of-requires
tlv_of-requires c =
    subst (AreNested Top)
    (sym (ap trees_of c.as_slice.ensures.value ∙ rw c.in-Some.is at c.in_ok-nodes.ensures.records))
    (nested (shown_in c.args.store.now c.args.resources.now c.args.place))
