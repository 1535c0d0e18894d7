use Rattle.std.proofs.Common.{◌∷◌, [], append-nil, arith, refl, sym, ap, subst, ◌∙◌}
use Rattle.fleet_link.specs.Traffic.{Carries, at_port, sent_all}
use Rattle.fleet_wire.specs.declared.plan.Direction.TheVariants.{Out}
use Rattle.fleet_wire.specs.declared.plan.Plan.{Plan}
use Rattle.fleet_wire.specs.Lane.{went_by}
use Rattle.fleet_wire.proofs.Notes.{noted_same}
use Rattle.fleet_wire.proofs.OneLane.{gone_of}
use Rattle.fleet_wire.proofs.Wires.{far_same, far_went, wired_on, wired_still}
use Rattle.fleet_wire.proofs.lossy.send_next.Goals as goal

pub returns-in-None-clause-wired : goal.returns-in-None-clause-wired
returns-in-None-clause-wired g c =
    λ plan devices before w.
    let s = c.args.wire.now in
    let t = record s { outgoing = c.go.new.self } in
    wired_still plan devices before (g.P.Ports.told c.args.ports.now) s t w refl w.incoming
    (c.go.ensures.lanes plan Out devices s.second (sym (ap (λ (p : Plan). p.late_by) w.plan_is)) w.outgoing
    (omega arith))
    (λ e. far_same s t e refl (c.in-None.ensures.went e ∙ append-nil (went_by s.outgoing.log e)) refl)
    (noted_same plan devices s t w.noted refl refl (c.go.ensures.notes plan Out devices))

pub returns-in-Some-clause-wired : goal.returns-in-Some-clause-wired
returns-in-Some-clause-wired g c =
    λ plan devices before w.
    let s = c.args.wire.now in
    let t = record s { outgoing = c.go.new.self } in
    let h = c.in-Some.held in
    wired_on plan devices before (g.P.Ports.told c.args.ports.now) (g.P.Ports.told c.send.new.self) s t
    (λ e. at_port h.device e (sent_all (h.packet ∷ []))) w refl w.incoming
    (c.go.ensures.lanes plan Out devices s.second (sym (ap (λ (p : Plan). p.late_by) w.plan_is)) w.outgoing
    (omega arith))
    (λ e. subst (λ b. Carries (g.P.Ports.told c.args.ports.now e) (g.P.Ports.told c.send.new.self e)
    (at_port h.device e (sent_all (record { server = h.packet.server; bytes = b } ∷ [])))) c.as_slice.ensures
    (c.send.ensures.told e))
    (λ e. far_went s t h.device (gone_of s.second h) e refl (c.in-Some.ensures.went e) refl)
    (noted_same plan devices s t w.noted refl refl (c.go.ensures.notes plan Out devices))
