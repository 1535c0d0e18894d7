use Rattle.std.proofs.Common.{◌∙◌, sym, subst}
use Rattle.std.proofs.lemmas.Result.{IfOk-weaker}
use Rattle.device_notifications.specs.Deeds.{Does}
use Rattle.device_notifications.specs.Second.{turn_as}
use Rattle.device_notifications.proofs.Deeding.{does_expire, does_resending, does_waiting, turn_is}
use Rattle.device_notifications.proofs.deeds.deed_of.Goals as goal

pub returns-in-Evaluate : goal.returns-in-Evaluate
returns-in-Evaluate c =
    let client = c.args.client.now in
    let os = c.args.observations.now.list in
    IfOk-weaker c.evaluate.result _ _ (λ deed h o at.
    subst (λ t. Does client c.args.clock o (turn_as client c.args.clock c.args.outbox.now.next_id o t) deed
    c.args.outbox.now c.evaluate.new.outbox)
    (sym (turn_is os c.args.place c.args.clock o c.turn.result at c.turn.ensures ∙ c.in-Evaluate.is))
    (h o at)) c.evaluate.ensures

pub returns-in-Wait : goal.returns-in-Wait
returns-in-Wait c =
    λ o at. does_waiting c.args.client.now c.args.clock o c.args.outbox.now
    (turn_is c.args.observations.now.list c.args.place c.args.clock o c.turn.result at c.turn.ensures ∙ c.in-Wait.is)

pub returns-in_ok-resend-in-Resend : goal.returns-in_ok-resend-in-Resend
returns-in_ok-resend-in-Resend c =
    λ o at. does_resending c.args.client.now c.args.clock o c.args.outbox.now c.resend.new.outbox
    (turn_is c.args.observations.now.list c.args.place c.args.clock o c.turn.result at c.turn.ensures
    ∙ c.in-Resend.is)
    (c.in_ok-resend-in-Resend.ensures.sent o at) c.resend.ensures.next_id

pub returns-in-Expire : goal.returns-in-Expire
returns-in-Expire c =
    λ o at. does_expire c.args.client.now c.args.clock o c.args.outbox.now
    (turn_is c.args.observations.now.list c.args.place c.args.clock o c.turn.result at c.turn.ensures
    ∙ c.in-Expire.is)
