use Rattle.coap_codec.proofs.Fronts.{same_front, no_front, is_good}
use Rattle.coap_codec.proofs.reading.front_of.Goals as goal

pub returns-clause-message : goal.returns-clause-message
returns-clause-message c = λ m spells.
    let found = c.start_of.ensures in
    is_good _ _ _ _ c.start_of.result found.parts found.token found.fault
    (λ s parts short. same_front _ _ _ _ _ _ m parts short spells) (λ f wrong. no_front _ m f spells wrong)
