use Rattle.lwm2m_values.proofs.TlvPlaces.{in_header_here, in_content_here}
use Rattle.lwm2m_values.proofs.place.lack_of.Goals as goal

pub returns-in-Some : goal.returns-in-Some
returns-in-Some c =
    in_content_here _ _ _ _ _ c.in-Some.ensures.found c.requires

pub returns-in-None : goal.returns-in-None
returns-in-None c =
    rw c.header_size.ensures (in_header_here _ c.in-None.ensures.short)
