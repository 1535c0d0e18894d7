use Rattle.std.proofs.Common.{◌∙◌, rules}
use Rattle.device_machine.specs.State.{Shows}
use Rattle.live_link.specs.Served.{IsSession}
use Rattle.live_link.proofs.Served.{if_err, on_ok}
use Rattle.live_link.proofs.Turned.{off_asked, off_unasked, turned}
use Rattle.live_link.proofs.serving.Serving.turn.Goals as goal

pub returns-in_err-pass-clause-over : goal.returns-in_err-pass-clause-over
returns-in_err-pass-clause-over g c =
    let end = c.in_err-pass.field-0.0 in
    λ first before read_before turns most h le.
    let over : IsSession (Shows first) first.spent most end c.pass.new.self.steps.items c.pass.new.self.sent.items
    before (g.W.Wire.told c.pass.new.wire) read_before (g.C.Seconds.read c.now-now.new.self) =
    off_unasked end first before read_before turns most c.args.self.now.device c.args.self.now.counted _
    c.args.self.now.steps.items c.pass.new.self.steps.items c.args.self.now.sent.items c.pass.new.self.sent.items
    (g.W.Wire.told c.args.wire.now) (g.W.Wire.told c.pass.new.wire) (g.C.Seconds.read c.args.clock.now)
    (g.C.Seconds.read c.now-now.new.self) c.now-now.result h c.now-now.ensures c.in_err-pass.ensures.at_step
    (c.in_err-pass.ensures.cut first before h.received h.serving) c.pass.ensures.counted le in
    search (rules, over)

pub returns-clause-under_way : goal.returns-clause-under_way
returns-clause-under_way g c =
    λ first before read_before turns h. on_ok c.hear.result
    (c.hear.ensures.serving first before h.received (c.in_ok-pass.ensures.serving first before h.received h.serving))
    (λ heard. turned first before read_before turns c.args.self.now.device c.hear.new.self.device
    c.args.self.now.counted c.hear.new.self.counted c.args.self.now.steps.items c.pass.new.self.steps.items
    c.hear.new.self.steps.items c.args.self.now.sent.items c.hear.new.self.sent.items
    (g.W.Wire.told c.args.wire.now) (g.W.Wire.told c.hear.new.wire) (g.C.Seconds.read c.args.clock.now)
    (g.C.Seconds.read c.now-now.new.self) c.now-now.result h c.now-now.ensures c.in_ok-pass.ensures.noted heard
    (c.hear.ensures.counted ∙ c.pass.ensures.counted))

pub returns-clause-over : goal.returns-clause-over
returns-clause-over g c =
    λ first before read_before turns most h le. if_err c.hear.result
    (c.hear.ensures.cut first before h.received (c.in_ok-pass.ensures.serving first before h.received h.serving))
    (λ end broken. off_asked end first before read_before turns most c.args.self.now.device
    c.args.self.now.counted c.hear.new.self.counted c.args.self.now.steps.items c.pass.new.self.steps.items
    c.hear.new.self.steps.items c.args.self.now.sent.items c.hear.new.self.sent.items
    (g.W.Wire.told c.args.wire.now) (g.W.Wire.told c.hear.new.wire) (g.C.Seconds.read c.args.clock.now)
    (g.C.Seconds.read c.now-now.new.self) c.now-now.result h c.now-now.ensures c.in_ok-pass.ensures.noted broken
    (c.hear.ensures.counted ∙ c.pass.ensures.counted) le)
