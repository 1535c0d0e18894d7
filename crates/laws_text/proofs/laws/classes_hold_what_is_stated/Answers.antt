use Rattle.laws_text.proofs.Holding.{classes_hold}
use Rattle.laws_text.proofs.laws.classes_hold_what_is_stated.Goals as goal

pub returns : goal.returns
returns c = classes_hold
