-- The requests that are kept live.
use Rattle.std.proofs.Common.{◌+◌, subst, sym}
use Rattle.device_machine.specs.Records.{AllLive}
use Rattle.device_machine.proofs.Lives.{kept_live}
use Rattle.device_machine.proofs.machine.Machine.tick.Goals as goal

pub invariant_of-self-2 : goal.invariant_of-self-2
invariant_of-self-2 c =
    let now = c.self.inside.clock + c.from.result in
    subst (AllLive now) (sym c.forget.ensures) (kept_live now c.self.inside.recorded)
