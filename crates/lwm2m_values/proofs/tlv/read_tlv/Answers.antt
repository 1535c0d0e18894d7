use Rattle.lwm2m_values.specs.Tree.{trees_of}
use Rattle.lwm2m_values.proofs.ReadTlv.{is_only, is_refused}
use Rattle.lwm2m_values.proofs.TlvReading.{is_reading}
use Rattle.lwm2m_values.proofs.tlv.read_tlv.Goals as goal

pub returns-clause-only : goal.returns-clause-only
returns-clause-only c =
    is_only (λ v. trees_of v.items) _ c.nodes_of.result c.nodes_of.ensures.found c.nodes_of.ensures.fault

pub returns-clause-refused : goal.returns-clause-refused
returns-clause-refused c =
    is_refused (λ v. trees_of v.items) _ c.nodes_of.result c.nodes_of.ensures.found c.nodes_of.ensures.fault

pub returns-clause-reading : goal.returns-clause-reading
returns-clause-reading c =
    is_reading (λ v. trees_of v.items) _ c.nodes_of.result c.nodes_of.ensures.found c.nodes_of.ensures.fault
