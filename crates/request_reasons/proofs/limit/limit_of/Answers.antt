use Rattle.std.proofs.Common.{◌≡◌, true, is_some, ap, sym, subst, ◌∙◌}
use Rattle.std.proofs.lemmas.Result.{IfOk-weaker}
use Rattle.device_requests.specs.Create.{creation_lack, newborn}
use Rattle.device_requests.specs.Refusals.{Purpose, is_too_much}
use Rattle.lwm2m_payloads.specs.declared.given.Mode.TheVariants.{Replace, Update}
use Rattle.request_reasons.specs.Limits.{IsLimit, IsRoomLimit}
use Rattle.request_reasons.proofs.Judged.{has_excess}
use Rattle.request_reasons.proofs.Said.{creating, replacing, updating}
use Rattle.request_reasons.proofs.limit.limit_of.Goals as goal

pub parts_limit-requires : goal.parts_limit-requires
parts_limit-requires c =
    let r = c.args.request in
    let payload = c.as_slice-payload.ensures ∙ c.payload.ensures in
    has_excess c.args.client.now c.args._server Replace r.path r.content_format c.as_slice-payload.result.now
    (subst (λ (p : Purpose). is_too_much c.args.client.now c.args._server r.path p ≡ true)
    (replacing c.args.message.now r c.as_slice-payload.result.now c.requires.read payload c.in-WriteReplace.is)
    c.requires.exceeded)

pub parts_limit-requires-in-WritePartial : goal.parts_limit-requires-in-WritePartial
parts_limit-requires-in-WritePartial c =
    let r = c.args.request in
    let payload = c.as_slice-payload.ensures ∙ c.payload.ensures in
    has_excess c.args.client.now c.args._server Update r.path r.content_format c.as_slice-payload.result.now
    (subst (λ (p : Purpose). is_too_much c.args.client.now c.args._server r.path p ≡ true)
    (updating c.args.message.now r c.as_slice-payload.result.now c.requires.read payload c.in-WritePartial.is)
    c.requires.exceeded)

pub room_limit-requires : goal.room_limit-requires
room_limit-requires c =
    let r = c.args.request in
    let client = c.args.client.now in
    let given = c.as_slice-payload.result.now in
    let payload = c.as_slice-payload.ensures ∙ c.payload.ensures in
    ap (λ o. is_some (creation_lack client o (newborn client o given))) c.object.ensures
    ∙ subst (λ (p : Purpose). is_too_much client c.args._server r.path p ≡ true)
    (creating c.args.message.now r given c.requires.read payload c.in-Create.is)
    c.requires.exceeded

pub returns-in-WriteReplace : goal.returns-in-WriteReplace
returns-in-WriteReplace c =
    let r = c.args.request in
    let payload = c.as_slice-payload.ensures ∙ c.payload.ensures in
    IfOk-weaker c.parts_limit.result _ _
    (λ l told. subst (λ (p : Purpose). IsLimit c.args.client.now c.args._server r.path p l)
    (sym (replacing c.args.message.now r c.as_slice-payload.result.now c.requires.read payload c.in-WriteReplace.is))
    told) c.parts_limit.ensures

pub returns-in-WritePartial : goal.returns-in-WritePartial
returns-in-WritePartial c =
    let r = c.args.request in
    let payload = c.as_slice-payload.ensures ∙ c.payload.ensures in
    IfOk-weaker c.parts_limit-in-WritePartial.result _ _
    (λ l told. subst (λ (p : Purpose). IsLimit c.args.client.now c.args._server r.path p l)
    (sym (updating c.args.message.now r c.as_slice-payload.result.now c.requires.read payload c.in-WritePartial.is))
    told) c.parts_limit-in-WritePartial.ensures

pub returns-in-Create : goal.returns-in-Create
returns-in-Create c =
    let r = c.args.request in
    let given = c.as_slice-payload.result.now in
    let payload = c.as_slice-payload.ensures ∙ c.payload.ensures in
    IfOk-weaker c.room_limit.result _ _
    (λ l told. subst (λ (p : Purpose). IsLimit c.args.client.now c.args._server r.path p l)
    (sym (creating c.args.message.now r given c.requires.read payload c.in-Create.is))
    (subst (λ o. IsRoomLimit c.args.client.now o given l) c.object.ensures told)) c.room_limit.ensures
