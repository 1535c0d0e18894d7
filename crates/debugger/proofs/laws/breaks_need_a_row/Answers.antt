use Rattle.debugger.proofs.Devices.{never_holds}
use Rattle.debugger.proofs.laws.breaks_need_a_row.Goals as goal

pub returns : goal.returns
returns c = λ s es b p d run on past holds. never_holds s es b p d run on past holds
