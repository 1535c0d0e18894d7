use Rattle.std.proofs.Common.{None, Some, ap}
use Rattle.notification_reasons.proofs.Found.{reason_told}
use Rattle.notification_reasons.proofs.Turning.{evaluated_is, given_up_is, resent_is, waits_is}
use Rattle.notification_reasons.proofs.finding.turn_reason.Goals as goal

pub returns-in-Evaluate : goal.returns-in-Evaluate
returns-in-Evaluate c = λ known o at.
    reason_told c.args.client.now c.args.clock o c.evaluated_reason.result
    (evaluated_is c.args.client.now c.args.observations.now.list c.args.observations.now.said c.args.place c.args.clock
    o c.in_ok-observation.observation.now c.outlook-outlook.result c.evaluated_reason.result known at
    c.in_ok-observation.ensures.value c.in-Evaluate.ensures c.outlook-outlook.ensures c.evaluated_reason.ensures)

pub returns-in-Resend : goal.returns-in-Resend
returns-in-Resend c = λ known o at.
    reason_told c.args.client.now c.args.clock o c.resent_reason.result
    (resent_is c.args.client.now c.args.observations.now.list c.args.place c.args.clock o
    c.in_ok-observation.observation.now c.resent_reason.result at c.in_ok-observation.ensures.value
    c.in-Resend.ensures c.resent_reason.ensures)

pub returns-in-Wait : goal.returns-in-Wait
returns-in-Wait c = λ known o at.
    reason_told c.args.client.now c.args.clock o None
    (waits_is c.args.client.now c.args.observations.now.list c.args.place c.args.clock o at c.in-Wait.ensures)

pub returns-in-Expire : goal.returns-in-Expire
returns-in-Expire c = λ known o at.
    reason_told c.args.client.now c.args.clock o (Some c.given_up.result)
    (given_up_is c.args.client.now c.args.observations.now.list c.args.place c.args.clock o
    c.in_ok-observation.observation.now (Some c.given_up.result) at c.in_ok-observation.ensures.value
    c.in-Expire.ensures (ap Some c.given_up.ensures))
