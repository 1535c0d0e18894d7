use Rattle.case_play.proofs.Stating.{code_sent, notification_sent}
use Rattle.case_play.proofs.outputs.states_send.Goals as goal

pub returns-in-Code : goal.returns-in-Code
returns-in-Code c =
    code_sent c.is_message.result c.args.stated.now _ _ _ c.args.to c.args.bytes.now c.in-Code.is
    c.as_ref.ensures.value c.is_message.ensures

pub returns-in-Notification : goal.returns-in-Notification
returns-in-Notification c =
    notification_sent c.is_notification.result c.args.stated.now _ _ c.args.to c.args.bytes.now c.in-Notification.is
    c.is_notification.ensures
