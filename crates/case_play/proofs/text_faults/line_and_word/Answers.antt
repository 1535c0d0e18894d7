use Rattle.std.proofs.Common.{append_assoc}
use Rattle.case_play.proofs.text_faults.line_and_word.Goals as goal

pub returns : goal.returns
returns c = simp append_assoc c.format.ensures.ok
