use Rattle.std.proofs.Common.{◌≡◌, true, ap, sym, true≢false, ◌∙◌}
use Rattle.device_requests.specs.Answer.{is_content}
use Rattle.device_notifications.specs.declared.evaluation.Evaluation.TheVariants.{Sends}
use Rattle.device_notifications.specs.Second.{present_answer}
use Rattle.device_notifications.proofs.Resting.{by_due}
use Rattle.device_notifications.proofs.evaluation.judge.Goals as goal

pub returns-then-is_content : goal.returns-then-is_content
returns-then-is_content c =
    let client = c.args.client.now in
    let o = c.args.observation.now in
    let content : is_content (present_answer client o) ≡ true =
    ap is_content (sym c.in_ok-answer.ensures.answer) ∙ sym c.is_content.ensures ∙ c.if-is_content.true in
    by_due client c.args.clock o (λ v. Sends c.in_ok-answer.answer ≡ v) c.requires
    (λ _. ap Sends c.in_ok-answer.ensures.answer)
    (λ none. absurd (true≢false (sym content ∙ none)))
