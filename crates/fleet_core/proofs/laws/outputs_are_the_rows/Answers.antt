use Rattle.fleet_core.proofs.Board.{row_puts_out}
use Rattle.fleet_core.proofs.laws.outputs_are_the_rows.Goals as goal

pub returns : goal.returns
returns c = row_puts_out
