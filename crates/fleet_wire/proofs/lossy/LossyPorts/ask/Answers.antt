use Rattle.std.proofs.Common.{Ok, sym, subst}
use Rattle.fleet_link.specs.declared.ports.Receipt.{Receipt}
use Rattle.fleet_link.specs.Traffic.{Carries, at_port, handed_at, traffic_of_receipt}
use Rattle.fleet_wire.specs.Lane.{IsIdle}
use Rattle.fleet_wire.specs.Wire.{IsWhole}
use Rattle.fleet_wire.proofs.Wires.{taken_in}
use Rattle.fleet_wire.proofs.lossy.LossyPorts.ask.Goals as goal

pub returns-in-Ok-Arrived-clause-wire : goal.returns-in-Ok-Arrived-clause-wire
returns-in-Ok-Arrived-clause-wire g c =
    λ plan devices before idle w.
    let s = c.args.self.now.wire in
    let t = c.take_in.new.self in
    let between = g.P.Ports.told c.args.self.now.ports in
    let after = g.P.Ports.told c.receive.new.self in
    taken_in c.take_in.result s.whole t.whole (IsWhole plan devices before after t)
    (IsWhole plan devices before between s) c.take_in.ensures.broken c.take_in.ensures.whole w
    (λ whole. c.take_in.ensures.wired plan devices before between after whole
    (subst (λ n. IsIdle s.plan.late_by n s.incoming) (sym c.requires) idle)
    (λ e. subst (λ n. Carries (between e) (after e)
    (at_port c.in-Ok-Arrived.arrival.device e (handed_at n c.in-Ok-Arrived.arrival.packet))) (sym c.requires)
    (subst (λ (r : Receipt). Carries (between e) (after e) (traffic_of_receipt c.args.second (Ok r) e))
    c.in-Ok-Arrived.field-0-is (c.in-Ok-Arrived.ensures.told e))))
