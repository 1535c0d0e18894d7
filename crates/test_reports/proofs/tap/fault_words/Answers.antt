use Rattle.std.proofs.Common.{append_assoc}
use Rattle.test_reports.proofs.tap.fault_words.Goals as goal

pub returns : goal.returns
returns c = simp append_assoc c.format.ensures.ok
