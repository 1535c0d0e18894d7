use Rattle.std.proofs.Common.{◌≡◌, true, false, is_some, ap, sym, subst, ◌∙◌}
use Rattle.std.proofs.lemmas.Bool.{not-false, not-true}
use Rattle.std.proofs.lemmas.Result.{IfOk-weaker}
use Rattle.device_requests.specs.Create.{newborn}
use Rattle.device_requests.specs.Refusals.{Purpose, is_invalid, lacks_format}
use Rattle.request_reasons.specs.Unfit.{IsUnfit, IsUnfitCreate}
use Rattle.request_reasons.proofs.Said.{annotating, creating, executing, never_invalid, writing}
use Rattle.request_reasons.proofs.invalid.unfit_of.Goals as goal

pub unfit_write-requires-clause-format : goal.unfit_write-requires-clause-format
unfit_write-requires-clause-format c =
    let r = c.args.request in
    let said = writing c.args.message.now r c.as_slice-payload.result.now c.requires.read
    (c.as_slice-payload.ensures ∙ c.payload.ensures) c.in-WriteReplace.is in
    not-false _ (subst (λ (p : Purpose). lacks_format c.args.client.now.catalog r.path p ≡ false) said.1
    c.requires.format)

pub unfit_write-requires-clause-invalid : goal.unfit_write-requires-clause-invalid
unfit_write-requires-clause-invalid c =
    let r = c.args.request in
    let said = writing c.args.message.now r c.as_slice-payload.result.now c.requires.read
    (c.as_slice-payload.ensures ∙ c.payload.ensures) c.in-WriteReplace.is in
    not-true _ (subst (λ (p : Purpose). is_invalid c.args.client.now c.args.server r.path p ≡ true) said.1
    c.requires.invalid)

pub unfit_annotation-requires : goal.unfit_annotation-requires
unfit_annotation-requires c =
    let r = c.args.request in
    not-true _ (subst (λ (p : Purpose). is_invalid c.args.client.now c.args.server r.path p ≡ true)
    (annotating c.args.message.now r.operation c.in-WriteAttributes.is) c.requires.invalid)

pub unfit_create-requires : goal.unfit_create-requires
unfit_create-requires c =
    let r = c.args.request in
    let client = c.args.client.now in
    let given = c.as_slice-payload.result.now in
    ap (λ o. is_some (newborn client o given)) c.object.ensures
    ∙ not-true _ (subst (λ (p : Purpose). is_invalid client c.args.server r.path p ≡ true)
    (creating c.args.message.now r given c.requires.read (c.as_slice-payload.ensures ∙ c.payload.ensures)
    c.in-Create.is) c.requires.invalid)

pub unfit_execute-requires : goal.unfit_execute-requires
unfit_execute-requires c =
    let r = c.args.request in
    not-true _ (subst (λ (p : Purpose). is_invalid c.args.client.now c.args.server r.path p ≡ true)
    (executing c.args.message.now r c.as_slice-payload.result.now c.requires.read
    (c.as_slice-payload.ensures ∙ c.payload.ensures) c.in-Execute.is) c.requires.invalid)

pub unreachable-requires : goal.unreachable-requires
unreachable-requires c =
    never_invalid c.args.client.now c.args.server c.args.request.path c.args.message.now c.args.request.operation
    c.in-Read.is c.requires.invalid

pub returns-in-WriteReplace : goal.returns-in-WriteReplace
returns-in-WriteReplace c =
    let r = c.args.request in
    let said = writing c.args.message.now r c.as_slice-payload.result.now c.requires.read
    (c.as_slice-payload.ensures ∙ c.payload.ensures) c.in-WriteReplace.is in
    IfOk-weaker c.unfit_write.result _ _
    (λ u told. subst (λ (p : Purpose). IsUnfit c.args.client.now c.args.server r.path p u) (sym said.1) told)
    c.unfit_write.ensures

pub returns-in-WriteAttributes : goal.returns-in-WriteAttributes
returns-in-WriteAttributes c =
    let r = c.args.request in
    IfOk-weaker c.unfit_annotation.result _ _
    (λ u told. subst (λ (p : Purpose). IsUnfit c.args.client.now c.args.server r.path p u)
    (sym (annotating c.args.message.now r.operation c.in-WriteAttributes.is)) told) c.unfit_annotation.ensures

pub returns-in-Create : goal.returns-in-Create
returns-in-Create c =
    let r = c.args.request in
    let given = c.as_slice-payload.result.now in
    IfOk-weaker c.unfit_create.result _ _
    (λ u told. subst (λ (p : Purpose). IsUnfit c.args.client.now c.args.server r.path p u)
    (sym (creating c.args.message.now r given c.requires.read (c.as_slice-payload.ensures ∙ c.payload.ensures)
    c.in-Create.is))
    (subst (λ o. IsUnfitCreate c.args.client.now o given u) c.object.ensures told)) c.unfit_create.ensures

pub returns-in-Execute : goal.returns-in-Execute
returns-in-Execute c =
    let r = c.args.request in
    subst (λ (p : Purpose). IsUnfit c.args.client.now c.args.server r.path p c.unfit_execute.result)
    (sym (executing c.args.message.now r c.as_slice-payload.result.now c.requires.read
    (c.as_slice-payload.ensures ∙ c.payload.ensures) c.in-Execute.is)) c.unfit_execute.ensures
