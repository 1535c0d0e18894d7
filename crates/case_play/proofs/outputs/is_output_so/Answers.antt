use Rattle.case_play.proofs.Stating.{send_so, code_so, notification_so, act_so}
use Rattle.case_play.proofs.outputs.is_output_so.Goals as goal

pub returns-in-Send : goal.returns-in-Send
returns-in-Send c =
    send_so c.states_next.result c.args.stated.now _ _ c.args.outputs.now c.args.before c.in-Send.is
    c.states_next.ensures

pub returns-in-Code : goal.returns-in-Code
returns-in-Code c =
    code_so c.states_next-in-Code.result c.args.stated.now _ _ c.args.outputs.now c.args.before c.in-Code.is
    c.states_next-in-Code.ensures

pub returns-in-Notification : goal.returns-in-Notification
returns-in-Notification c =
    notification_so c.states_next-in-Notification.result c.args.stated.now _ _ c.args.outputs.now c.args.before
    c.in-Notification.is c.states_next-in-Notification.ensures

pub returns-in-Act : goal.returns-in-Act
returns-in-Act c =
    act_so c.states_next-in-Act.result c.args.stated.now _ c.args.outputs.now c.args.before c.in-Act.is
    c.states_next-in-Act.ensures
