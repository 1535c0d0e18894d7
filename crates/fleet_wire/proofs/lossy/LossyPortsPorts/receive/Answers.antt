use Rattle.std.proofs.Common.{◌∷◌, [], arith, refl, sym, ap, ◌∙◌}
use Rattle.fleet_link.proofs.Told.{read_both}
use Rattle.fleet_wire.specs.Wire.{failures_by}
use Rattle.fleet_wire.proofs.Wires.{idle_at, quiet_if, wired_later, whole_from}
use Rattle.fleet_wire.proofs.lossy.LossyPortsPorts.receive.Goals as goal

pub returns-in-Some-clause-wire : goal.returns-in-Some-clause-wire
returns-in-Some-clause-wire g c =
    λ plan devices before w whole.
    let s = c.args.self.now.wire in
    let old = w (sym (c.hand_out.ensures.whole ∙ c.send_on.ensures.whole) ∙ whole) in
    let after = g.P.Ports.told c.send_on.new.ports in
    let sent = c.send_on.ensures.whole_one plan devices before
    (wired_later plan devices before (g.P.Ports.told c.args.self.now.ports) s _ old.wired (omega arith) refl refl refl
    (λ e. ap (λ k. failures_by k e) c.of.ensures) refl) in
    whole_from plan devices before after c.send_on.new.wire c.hand_out.new.self sent
    (c.hand_out.ensures.wired plan devices before after sent.wired) c.hand_out.ensures.second
    c.hand_out.ensures.outgoing

pub returns-in-None-clause-wire : goal.returns-in-None-clause-wire
returns-in-None-clause-wire g c =
    λ plan devices before w.
    let s = c.args.self.now.wire in
    let t = c.send_on.new.wire in
    let u = c.hand_out.new.self in
    let after = g.P.Ports.told c.send_on.new.ports in
    c.ask.ensures.wire plan devices before
    (idle_at u.plan t.plan t.second c.args.second u.incoming (sym c.hand_out.ensures.plan)
    (sym c.send_on.ensures.second) c.in-None.ensures.idle)
    (λ whole.
    let old = w (sym (c.hand_out.ensures.whole ∙ c.send_on.ensures.whole) ∙ whole) in
    let sent = c.send_on.ensures.whole_one plan devices before
    (wired_later plan devices before (g.P.Ports.told c.args.self.now.ports) s _ old.wired (omega arith) refl refl refl
    (λ e. ap (λ k. failures_by k e) c.of.ensures) refl) in
    whole_from plan devices before after t u sent (c.hand_out.ensures.wired plan devices before after sent.wired)
    c.hand_out.ensures.second c.hand_out.ensures.outgoing)

pub returns-in-None-clause-asked_below : goal.returns-in-None-clause-asked_below
returns-in-None-clause-asked_below g c =
    λ later.
    quiet_if c.ask.result _
    (read_both (g.P.Ports.asked c.args.self.now.ports) (g.P.Ports.asked c.send_on.new.ports)
    (g.P.Ports.asked c.ask.new.self.ports) [] (c.args.second ∷ []) (c.args.second ∷ []) c.send_on.ensures.asked
    c.ask.ensures.asked_below refl)
