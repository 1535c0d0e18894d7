use Rattle.command_json.proofs.Objects.{memory_printed, memory_refused}
use Rattle.command_json.proofs.telling.print_object.Goals as goal

pub returns-in-Err-clause-printed : goal.returns-in-Err-clause-printed
returns-in-Err-clause-printed g c = memory_printed _ _ _ c.print-in-Err.result _ _ c.print-in-Err.ensures.printed

pub returns-in-Err-clause-refused : goal.returns-in-Err-clause-refused
returns-in-Err-clause-refused g c =
    memory_refused _ _ _ c.print-in-Err.result g.W.World.faults.output_refuses c.print-in-Err.ensures.refused
