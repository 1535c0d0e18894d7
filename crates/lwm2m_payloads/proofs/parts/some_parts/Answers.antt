use Rattle.std.proofs.Common.{◌∙◌, ap, arith}
use Rattle.std.proofs.lemmas.Result.{IfOk-weaker}
use Rattle.lwm2m_payloads.specs.Results.{result_map}
use Rattle.lwm2m_payloads.specs.declared.given.Given.TheVariants.{Parts}
use Rattle.lwm2m_payloads.proofs.LoneRecord.{some}
use Rattle.lwm2m_payloads.proofs.parts.some_parts.Goals as goal

pub returns-in_default : goal.returns-in_default
returns-in_default c =
    IfOk-weaker c.parts_given.result _ _
    (λ p told. ap (result_map Parts) told
    ∙ some c.args.definition c.args.nodes.now (λ e. omega (arith, e, c.in_default.len_at_least)))
    c.parts_given.ensures
