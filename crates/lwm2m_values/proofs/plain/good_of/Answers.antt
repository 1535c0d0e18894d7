use Rattle.std.proofs.Common.{◌∙◌}
use Rattle.lwm2m_values.proofs.OneText.{no_link, same_link}
use Rattle.lwm2m_values.proofs.plain.good_of.Goals as goal

pub returns-in-Some-clause-only : goal.returns-in-Some-clause-only
returns-in-Some-clause-only c =
    λ v good is h. same_link _ _ _ _ c.in-Some.is c.pair_of.ensures.only v good (is ∙ c.in-Link.is) h

pub returns-in-None-clause-only : goal.returns-in-None-clause-only
returns-in-None-clause-only c =
    λ v good is h. absurd (no_link _ _ c.in-None.is c.pair_of.ensures.only v good (is ∙ c.in-Link.is) h)

pub returns-in-None-clause-refused : goal.returns-in-None-clause-refused
returns-in-None-clause-refused c =
    λ f v good is h. no_link _ _ c.in-None.is c.pair_of.ensures.only v good (is ∙ c.in-Link.is) h
