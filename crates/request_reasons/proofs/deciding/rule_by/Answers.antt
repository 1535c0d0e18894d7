use Rattle.std.proofs.Common.{ap, ◌∙◌}
use Rattle.std.proofs.lemmas.Bool.{eqb-true}
use Rattle.object_defs.specs.Path.{object_in}
use Rattle.device_requests.specs.declared.ruling.Ruling.TheVariants as ruling
use Rattle.device_requests.specs.Refusals.{lacks_format}
use Rattle.device_requests.specs.Request.{purpose_of}
use Rattle.request_reasons.proofs.Lines.{done_by, never_by, ruled, unserved_by}
use Rattle.request_reasons.proofs.deciding.rule_by.Goals as goal

pub right_rule-requires-clause-denied : goal.right_rule-requires-clause-denied
right_rule-requires-clause-denied c =
    let r = c.args.request in
    ruled c.args.client.now c.args.server r.path (purpose_of c.args.message.now r.operation) c.args.ruling ruling.Right
    c.requires.first c.in-Right.is

pub returns-in-Security-clause-why : goal.returns-in-Security-clause-why
returns-in-Security-clause-why c =
    let r = c.args.request in
    let named =
    ruled c.args.client.now c.args.server r.path (purpose_of c.args.message.now r.operation) c.args.ruling
    ruling.Security c.requires.first c.in-Security.is in
    eqb-true (object_in r.path) 0 named

pub limit_of-requires-clause-exceeded : goal.limit_of-requires-clause-exceeded
limit_of-requires-clause-exceeded c =
    let r = c.args.request in
    ruled c.args.client.now c.args.server r.path (purpose_of c.args.message.now r.operation) c.args.ruling ruling.Limit
    c.requires.first c.in-Limit.is

pub unfit_of-requires-clause-format : goal.unfit_of-requires-clause-format
unfit_of-requires-clause-format c =
    let r = c.args.request in
    (ruled c.args.client.now c.args.server r.path (purpose_of c.args.message.now r.operation) c.args.ruling
    ruling.Payload c.requires.first c.in-Payload.is).0

pub unfit_of-requires-clause-invalid : goal.unfit_of-requires-clause-invalid
unfit_of-requires-clause-invalid c =
    let r = c.args.request in
    (ruled c.args.client.now c.args.server r.path (purpose_of c.args.message.now r.operation) c.args.ruling
    ruling.Payload c.requires.first c.in-Payload.is).1

pub unserved-number-requires-clause-unserved : goal.unserved-number-requires-clause-unserved
unserved-number-requires-clause-unserved c =
    let r = c.args.request in
    let purpose = purpose_of c.args.message.now r.operation in
    ap (λ catalog. lacks_format catalog r.path purpose) c.catalog-in-Accept.ensures
    ∙ (unserved_by c.args.client.now c.args.server r.path purpose c.args.ruling c.requires.first c.in-Accept.is).0

pub returns-in-Accept-clause-ruling : goal.returns-in-Accept-clause-ruling
returns-in-Accept-clause-ruling c =
    let r = c.args.request in
    (unserved_by c.args.client.now c.args.server r.path (purpose_of c.args.message.now r.operation) c.args.ruling
    c.requires.first c.in-Accept.is).1

pub returns-in-Created-clause-ruling : goal.returns-in-Created-clause-ruling
returns-in-Created-clause-ruling c =
    let r = c.args.request in
    done_by c.args.client.now c.args.server r.path (purpose_of c.args.message.now r.operation) c.args.ruling
    c.requires.first c.in-Created.is

pub unreachable-requires : goal.unreachable-requires
unreachable-requires c =
    let r = c.args.request in
    never_by c.args.client.now c.args.server r.path (purpose_of c.args.message.now r.operation) c.args.ruling
    c.requires.first c.in-Options.is
