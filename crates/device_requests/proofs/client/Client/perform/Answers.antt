use Rattle.std.proofs.Common.{IfOk, sym, subst, ◌∙◌}
use Rattle.lwm2m_payloads.specs.declared.given.Mode.TheVariants.{Replace, Update}
use Rattle.device_requests.specs.Answer.{Leaves}
use Rattle.device_requests.specs.Outcomes.{write_outcome}
use Rattle.device_requests.specs.Request.{outcome_by}
use Rattle.device_requests.proofs.client.Client.perform.Goals as goal

pub returns-in-WriteReplace-clause-outcome : goal.returns-in-WriteReplace-clause-outcome
returns-in-WriteReplace-clause-outcome c =
    subst (λ o. IfOk c.write.result (λ a. Leaves a c.write.new.self
    (outcome_by c.args.self.now c.args.server c.args.message.now c.args.request o))) (sym c.in-WriteReplace.is)
    (subst (λ p. IfOk c.write.result (λ a. Leaves a c.write.new.self
    (write_outcome c.args.self.now c.args.server Replace c.args.request.path c.args.request.content_format p)))
    (c.as_slice-payload.ensures ∙ c.payload.ensures) c.write.ensures.outcome)

pub returns-in-WritePartial-clause-outcome : goal.returns-in-WritePartial-clause-outcome
returns-in-WritePartial-clause-outcome c =
    subst (λ o. IfOk c.write-in-WritePartial.result (λ a. Leaves a c.write-in-WritePartial.new.self
    (outcome_by c.args.self.now c.args.server c.args.message.now c.args.request o))) (sym c.in-WritePartial.is)
    (subst (λ p. IfOk c.write-in-WritePartial.result (λ a. Leaves a c.write-in-WritePartial.new.self
    (write_outcome c.args.self.now c.args.server Update c.args.request.path c.args.request.content_format p)))
    (c.as_slice-payload.ensures ∙ c.payload.ensures) c.write-in-WritePartial.ensures.outcome)
