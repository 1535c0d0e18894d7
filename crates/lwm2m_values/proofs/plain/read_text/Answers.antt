use Rattle.lwm2m_values.proofs.TextReading.{is_bad, is_reading}
use Rattle.lwm2m_values.proofs.plain.read_text.Goals as goal

pub returns-clause-reading : goal.returns-clause-reading
returns-clause-reading c = is_reading _ _ c.good_of.result c.good_of.ensures.found c.good_of.ensures.refused

pub returns-clause-bad : goal.returns-clause-bad
returns-clause-bad c =
    is_bad _ _ c.good_of.result c.good_of.ensures.found c.good_of.ensures.fixed c.good_of.ensures.may_lack_memory
