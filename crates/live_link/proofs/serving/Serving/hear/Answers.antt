use Rattle.std.proofs.Common.{◌∷◌, [], ◌++◌, None, Some}
use Rattle.live_link.proofs.Served.{if_err, on_ok_with}
use Rattle.live_link.proofs.Turned.{asked_once, receive_failed, receive_refused}
use Rattle.live_link.proofs.serving.Serving.hear.Goals as goal

pub returns-in-Ok-Some-clause-serving : goal.returns-in-Ok-Some-clause-serving
returns-in-Ok-Some-clause-serving g c =
    let heard = Some c.in-Ok-Some.packet in
    λ first before received h. on_ok_with c.take_packet.result
    (c.take_packet.ensures.serving first before (received ++ heard ∷ [])
    (asked_once first before received heard c.args.self.now.device c.args.self.now.steps.items
    c.args.self.now.sent.items (g.W.Wire.told c.args.wire.now) (g.W.Wire.told c.receive.new.self) h
    (rw c.in-Ok-Some.field-0-is at c.in-Ok-Some.ensures)))
    c.take_packet.ensures.noted (λ k e. (heard, k, e))

pub returns-in-Ok-Some-clause-cut : goal.returns-in-Ok-Some-clause-cut
returns-in-Ok-Some-clause-cut g c =
    let heard = Some c.in-Ok-Some.packet in
    λ first before received h. if_err c.take_packet.result
    (c.take_packet.ensures.cut first before (received ++ heard ∷ [])
    (asked_once first before received heard c.args.self.now.device c.args.self.now.steps.items
    c.args.self.now.sent.items (g.W.Wire.told c.args.wire.now) (g.W.Wire.told c.receive.new.self) h
    (rw c.in-Ok-Some.field-0-is at c.in-Ok-Some.ensures)))
    (λ end broken. (heard, broken))

pub returns-in-Err-Failed-clause-cut : goal.returns-in-Err-Failed-clause-cut
returns-in-Err-Failed-clause-cut g c =
    λ first before received h. (
      None,
      receive_failed first before received c.args.self.now.device c.args.self.now.steps.items
          c.args.self.now.sent.items (g.W.Wire.told c.args.wire.now) (g.W.Wire.told c.receive.new.self) h
          (rw c.in-Err-Failed.field-0-is at c.in-Err-Failed.ensures),
    )

pub returns-in-Err-Memory-clause-cut : goal.returns-in-Err-Memory-clause-cut
returns-in-Err-Memory-clause-cut g c =
    λ first before received h. (
      None,
      receive_refused first before received c.args.self.now.device c.args.self.now.steps.items
          c.args.self.now.sent.items (g.W.Wire.told c.args.wire.now) (g.W.Wire.told c.receive.new.self) h
          (rw c.in-Err-Memory.field-0-is at c.in-Err-Memory.ensures),
    )
