use Rattle.std.proofs.Common.{append_assoc}
use Rattle.notification_reasons.proofs.text.given_up_words.Goals as goal

pub returns : goal.returns
returns c = simp append_assoc c.format.ensures.ok
