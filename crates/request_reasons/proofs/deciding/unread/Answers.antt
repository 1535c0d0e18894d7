use Rattle.std.proofs.Common.{sym, ap, subst, ◌∙◌}
use Rattle.device_requests.specs.declared.ruling.Ruling.TheVariants as ruling
use Rattle.device_requests.specs.Options.{path_of, segments_of}
use Rattle.request_reasons.specs.Options.{IsUnrecognized}
use Rattle.request_reasons.proofs.Unread.{lacking, never, unread}
use Rattle.request_reasons.proofs.deciding.unread.Goals as goal

pub unreachable-requires-in_default : goal.unreachable-requires-in_default
unreachable-requires-in_default c =
    never c.args.message.now c.args.ruling c.requires c.in_default.not-Options c.in_default.not-NoPath
    c.in_default.not-Method

pub returns-in-Options-clause-told : goal.returns-in-Options-clause-told
returns-in-Options-clause-told c client server =
    let options = c.as_slice-options.ensures ∙ c.options.ensures.value in
    let found = c.unrecognized-number.result in (
      unread c.args.message.now c.args.ruling ruling.Options c.requires c.in-Options.is,
      subst (λ os. IsUnrecognized os found.0 found.1) options c.unrecognized-number.ensures,
    )

pub returns-in-Some-clause-told : goal.returns-in-Some-clause-told
returns-in-Some-clause-told c client server =
    let options = c.as_slice-options.ensures ∙ c.options.ensures.value in
    lacking c.args.message.now c.args.ruling c.in-Some.path c.code.result c.requires c.in-Method.is
    (cc (ap (λ os. path_of (segments_of os)) options)) (sym c.code.ensures)
