use Rattle.fleet_wire.specs.Wired.{carried_under}
use Rattle.fleet_wire.proofs.Overs.{over_wire}
use Rattle.fleet_wire.proofs.wired.WiredPorts.is_whole.Goals as goal

pub returns-clause-over : goal.returns-clause-over
returns-clause-over c =
    λ whole.
    over_wire c.args.self.now.devices c.args.self.now.lossy.wire (carried_under c.args.self.now) c.args.self.now.over
    whole
