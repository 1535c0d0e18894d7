use Rattle.lwm2m_values.proofs.TlvPlaces.{is_none_for, is_unique, has_that_fault, says_reading, at_top}
use Rattle.lwm2m_values.proofs.place.tlv_place.Goals as goal

pub returns-clause-only : goal.returns-clause-only
returns-clause-only c = is_none_for _ _ (at_top _ _ c.place_among.ensures.place)

pub returns-clause-unique : goal.returns-clause-unique
returns-clause-unique c = is_unique _ _ c.place_among.ensures.none (at_top _ _ c.place_among.ensures.place)

pub returns-clause-fault : goal.returns-clause-fault
returns-clause-fault c = has_that_fault _ _ (at_top _ _ c.place_among.ensures.place)

pub returns-clause-reading : goal.returns-clause-reading
returns-clause-reading c = says_reading _ _ c.place_among.ensures.none (at_top _ _ c.place_among.ensures.place)
