use Rattle.std.proofs.Common.{subst}
use Rattle.command_fleet.specs.Settling.{AreSettled}
use Rattle.command_fleet.proofs.settling.UntilSettled.is_settled.Goals as goal

pub returns-in-Ok : goal.returns-in-Ok
returns-in-Ok g c = λ yes.
    subst (λ slots. AreSettled c.args.goal.now c.args.fleet.now.second slots) c.devices.ensures
    (subst (λ second. AreSettled c.args.goal.now second c.devices.result.now) c.second-second.ensures
    (c.in-Ok.ensures.settled yes))
