use Rattle.std.proofs.Common.{arith}
use Rattle.lwm2m_values.proofs.BytesReading.{is_bad, is_reading}
use Rattle.lwm2m_values.proofs.tlv_value.value_of.Goals as goal

pub returns-clause-reading : goal.returns-clause-reading
returns-clause-reading c = is_reading _ _ c.good_of.result c.good_of.ensures.found c.good_of.ensures.refused

pub returns-clause-bad : goal.returns-clause-bad
returns-clause-bad c =
    is_bad c.args.kind c.args.bytes.now c.good_of.result
    (λ i. omega (arith, c.type_inv.bytes i)) c.good_of.ensures.found c.good_of.ensures.fixed c.good_of.ensures.text
    c.good_of.ensures.opaque
