use Rattle.std.proofs.Common.{append_assoc}
use Rattle.command_words.proofs.acks.ack_text.Goals as goal

pub returns : goal.returns
returns c =
    let said = simp (c.in_ok-words.ensures.text) at c.format.ensures.ok in
    simp append_assoc said
