use Rattle.laws_reading.proofs.Line.{lines_have_words}
use Rattle.laws_reading.proofs.laws.lines_have_words.Goals as goal

pub returns : goal.returns
returns c = lines_have_words
