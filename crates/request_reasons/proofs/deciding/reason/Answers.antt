use Rattle.std.proofs.Common.{Some, sym, ap, ◌∙◌}
use Rattle.std.proofs.lemmas.Result.{IfOk-weaker}
use Rattle.device_requests.specs.Request.{outcome_for}
use Rattle.device_requests.proofs.Answering.{says}
use Rattle.request_reasons.proofs.deciding.reason.Goals as goal

pub returns-in-Err-clause-first : goal.returns-in-Err-clause-first
returns-in-Err-clause-first c =
    let client = c.args.client.now in
    let m = c.args.message.now in
    let answer =
    ap (λ r. (outcome_for client c.args.server m r).answer.ruling) (sym c.read.ensures.request ∙ c.in-Err.is) in
    IfOk-weaker c.unread.result _ _ (λ r is. says client c.args.server m ∙ ap Some (answer ∙ sym is))
    c.unread.ensures.ruling

pub returns-in-Err-clause-ruling : goal.returns-in-Err-clause-ruling
returns-in-Err-clause-ruling c =
    let answer =
    ap (λ r. (outcome_for c.args.client.now c.args.server c.args.message.now r).answer.ruling)
    (sym c.read.ensures.request ∙ c.in-Err.is) in
    IfOk-weaker c.unread.result _ _ (λ r is. is ∙ sym answer) c.unread.ensures.ruling

pub returns-in-Err-clause-told : goal.returns-in-Err-clause-told
returns-in-Err-clause-told c =
    IfOk-weaker c.unread.result _ _ (λ r told. told c.args.client.now c.args.server) c.unread.ensures.told

pub returns-in_ok-ruling-in-Ok-clause-first : goal.returns-in_ok-ruling-in-Ok-clause-first
returns-in_ok-ruling-in-Ok-clause-first c =
    let answer = c.in_ok-ruling-in-Ok.ensures in
    IfOk-weaker c.asked.result _ _
    (λ r is. says c.args.client.now c.args.server c.args.message.now ∙ ap Some (sym answer ∙ sym is))
    c.asked.ensures.ruling
