use Rattle.std.proofs.Common.{arith, refl, sym, ap}
use Rattle.fleet_wire.specs.declared.plan.Direction.TheVariants.{In}
use Rattle.fleet_wire.specs.declared.plan.Plan.{Plan}
use Rattle.fleet_wire.proofs.Notes.{noted_same}
use Rattle.fleet_wire.proofs.Wires.{far_same, wired_still}
use Rattle.fleet_wire.proofs.wire.Wire.hand_out.Goals as goal

pub returns-in-None-clause-wired : goal.returns-in-None-clause-wired
returns-in-None-clause-wired c =
    λ plan devices before after w.
    let s = c.args.self.now in
    wired_still plan devices before after s (record s { incoming = c.go.new.self }) w refl
    (c.go.ensures.lanes plan In devices s.second (sym (ap (λ (p : Plan). p.late_by) w.plan_is)) w.incoming
    (omega arith))
    w.outgoing (λ e. far_same s (record s { incoming = c.go.new.self }) e (c.go.ensures.came e) refl refl)
    (noted_same plan devices s (record s { incoming = c.go.new.self }) w.noted refl (c.go.ensures.notes plan In devices)
    refl)

pub returns-in-Some-clause-wired : goal.returns-in-Some-clause-wired
returns-in-Some-clause-wired c =
    λ plan devices before after w.
    let s = c.args.self.now in
    wired_still plan devices before after s (record s { incoming = c.go.new.self }) w refl
    (c.go.ensures.lanes plan In devices s.second (sym (ap (λ (p : Plan). p.late_by) w.plan_is)) w.incoming
    (omega arith))
    w.outgoing (λ e. far_same s (record s { incoming = c.go.new.self }) e (c.go.ensures.came e) refl refl)
    (noted_same plan devices s (record s { incoming = c.go.new.self }) w.noted refl (c.go.ensures.notes plan In devices)
    refl)
