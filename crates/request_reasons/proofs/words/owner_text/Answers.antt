use Rattle.request_reasons.proofs.words.owner_text.Goals as goal

pub returns : goal.returns
returns c = rw c.in_ok-place.ensures at c.format.ensures.ok
