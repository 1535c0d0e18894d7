use Rattle.std.proofs.Common.{refl}
use Rattle.fleet_wire.proofs.Wires.{whole_new}
use Rattle.fleet_wire.proofs.lossy.LossyPorts.new.Goals as goal

pub returns-clause-wire : goal.returns-clause-wire
returns-clause-wire g c =
    λ _.
    whole_new c.args.plan c.args.devices (g.P.Ports.told c.args.ports) _ refl
    (c.in_ok-incoming.ensures.lanes c.args.plan 0) (c.in_ok-outgoing.ensures.lanes c.args.plan 0)
    (c.in_ok-outgoing.ensures.idle c.args.plan.late_by 0) c.in_ok-incoming.ensures.came
    c.in_ok-outgoing.ensures.went (λ e. refl) c.new-3.ensures.items
    (c.in_ok-incoming.ensures.notes c.args.plan c.args.devices)
    (c.in_ok-outgoing.ensures.notes c.args.plan c.args.devices)
