use Rattle.debugger.proofs.Ending.{whole_row}
use Rattle.debugger.proofs.laws.ends_show_the_rows.Goals as goal

pub returns : goal.returns
returns c = λ s es d class steps run row done. whole_row s es d class steps run row done
