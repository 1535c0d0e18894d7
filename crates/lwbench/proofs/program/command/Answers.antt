use Rattle.lwbench.proofs.Ended.{faulted, finished}
use Rattle.lwbench.proofs.program.command.Goals as goal

pub returns-in-Ok : goal.returns-in-Ok
returns-in-Ok g c = finished _ _ _ _ _ _ _ c.in-Ok.ensures.done

pub returns-in-Err : goal.returns-in-Err
returns-in-Err g c =
    faulted _ _ _ (g.W.World.seen c.perform.new.world) _ _ _ _ _ _ _ _ c.tell_in.ensures.status
    c.in-Err.ensures.refused c.in-Err.ensures.form c.tell_in.ensures.told c.tell_in.ensures.only
