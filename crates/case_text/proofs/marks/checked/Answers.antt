use Rattle.scenario_words.proofs.QuoteLaws.{checked_utf8}
use Rattle.case_text.proofs.marks.checked.Goals as goal

pub returns : goal.returns
returns c = checked_utf8 c.args.bytes.now c.utf8_of.result c.utf8_of.ensures
