use Rattle.request_reasons.proofs.words.segment_text.Goals as goal

pub returns : goal.returns
returns c = rw c.in_ok-word.ensures at c.format.ensures.ok
