use Rattle.std.proofs.Common.{refl}
use Rattle.lwm2m_values.specs.Reading.{nodes_of_bytes}
use Rattle.request_reasons.proofs.Judged.{other_is}
use Rattle.request_reasons.proofs.invalid.told_of.Goals as goal

pub returns-in-None : goal.returns-in-None
returns-in-None c = (
  refl,
  refl,
  λ e. other_is c.tlv_place.result (nodes_of_bytes c.args.payload.now) c.in-None.is c.tlv_place.ensures.reading,
)
