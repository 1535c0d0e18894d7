use Rattle.request_reasons.proofs.payload_words.record_text.Goals as goal

pub returns-in_ok-more-in-Part : goal.returns-in_ok-more-in-Part
returns-in_ok-more-in-Part c =
    rw c.in-Part.is (rw c.in_ok-more-in-Part.ensures at c.format-in-Part.ensures.ok)
