use Rattle.std.proofs.Common.{ap, subst, ◌∙◌}
use Rattle.device_requests.specs.Options.{queries_of}
use Rattle.device_requests.specs.WriteAttributes.{level_at}
use Rattle.request_reasons.specs.Unfit.{IsUnfitAnnotation}
use Rattle.request_reasons.proofs.queries.unfit_annotation.Goals as goal

pub returns-in-Err : goal.returns-in-Err
returns-in-Err c =
    let m = c.args.client.now.attributes in
    let u = c.in-Err.unfit in
    let told = rw c.in-Err.is at c.in_ok-read.ensures in
    subst (λ level. IsUnfitAnnotation m c.args.server c.args.path level (queries_of c.args.message.now.options) u)
    (c.level_at-level.ensures ∙ ap (λ catalog. level_at catalog c.args.path) c.catalog.ensures)
    (subst (λ os. IsUnfitAnnotation m c.args.server c.args.path c.level_at-level.result (queries_of os) u)
    (c.as_slice.ensures ∙ c.options.ensures.value) (told m c.args.server c.args.path))
