use Rattle.std.proofs.Common.{◌∷◌, [], ◌++◌, List, subst, rules}
use Rattle.scenario_image.specs.declared.step.Step.TheVariants.{Event as event_step}
use Rattle.live_link.specs.declared.packet.Packet.{Packet}
use Rattle.live_link.specs.Serving.{AreCutShort, AreSent, IsBroken}
use Rattle.live_link.proofs.Served.{if_err, on_ok, step_cut, step_refused, step_served}
use Rattle.live_link.proofs.serving.Serving.take_event.Goals as goal

pub returns-in_err-packets-clause-cut : goal.returns-in_err-packets-clause-cut
returns-in_err-packets-clause-cut g c =
    let end = c.in_err-packets.field-0.0 in
    λ first before received h live.
    let cut : IsBroken end first before received (c.args.self.now.steps.items ++ event_step c.args.event ∷ [])
    c.step.new.self.steps.items c.step.new.self.sent.items (g.W.Wire.told c.args.wire.now) =
    step_refused end first before received c.args.self.now.device c.args.self.now.steps.items
    c.step.new.self.steps.items c.args.self.now.sent.items c.step.new.self.sent.items
    (g.W.Wire.told c.args.wire.now) c.args.event h c.in_err-packets.ensures.refused c.in_err-packets.ensures.unnoted
    c.step.ensures.sent in
    search (rules, cut)

pub returns-clause-serving : goal.returns-clause-serving
returns-clause-serving g c =
    let packets = c.in_ok-packets.packets.items in
    λ first before received h live. on_ok c.send_all.result c.send_all.ensures.sent (λ went.
    step_served first before received c.args.self.now.device c.step.new.self.device c.args.self.now.steps.items
    c.step.new.self.steps.items c.args.self.now.sent.items c.send_all.new.sent.items (g.W.Wire.told c.args.wire.now)
    (g.W.Wire.told c.send_all.new.wire) c.args.event packets h live c.in_ok-packets.ensures.shows
    c.in_ok-packets.ensures.taken c.in_ok-packets.ensures.output
    (subst (λ (s : List Packet). AreSent packets 0 0 s c.send_all.new.sent.items (g.W.Wire.told c.args.wire.now)
    (g.W.Wire.told c.send_all.new.wire)) c.step.ensures.sent went) c.in_ok-packets.ensures.noted)

pub returns-clause-cut : goal.returns-clause-cut
returns-clause-cut g c =
    let packets = c.in_ok-packets.packets.items in
    λ first before received h live. if_err c.send_all.result c.send_all.ensures.cut (λ end cut.
    step_cut end first before received c.args.self.now.device c.args.self.now.steps.items
    c.step.new.self.steps.items c.args.self.now.sent.items c.send_all.new.sent.items (g.W.Wire.told c.args.wire.now)
    (g.W.Wire.told c.send_all.new.wire) c.args.event packets h live c.in_ok-packets.ensures.taken
    c.in_ok-packets.ensures.output
    (subst (λ (s : List Packet). AreCutShort end packets s c.send_all.new.sent.items (g.W.Wire.told c.args.wire.now)
    (g.W.Wire.told c.send_all.new.wire)) c.step.ensures.sent cut) c.in_ok-packets.ensures.noted)
