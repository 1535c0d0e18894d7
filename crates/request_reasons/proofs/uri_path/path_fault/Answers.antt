use Rattle.std.proofs.Common.{sym, ap, ◌∙◌, arith}
use Rattle.std.specs.Option.{option_copied}
use Rattle.request_reasons.proofs.Segments.{all_numbers, bad_segment, counted, has_place, place_below}
use Rattle.request_reasons.proofs.uri_path.path_fault.Goals as goal

pub returns-in_default : goal.returns-in_default
returns-in_default c = (
  all_numbers c.args.options.now (sym c.bad_segment.ensures ∙ ap (λ o. option_copied o) c.in_default.is),
  counted c.args.options.now ∙ sym c.segment_count-count.ensures,
)

pub overflow_add-result : goal.overflow_add-result
overflow_add-result c =
    let below = place_below c.args.options.now c.in-Some-bad_place.place
    (sym c.bad_place.ensures ∙ c.in-Some-bad_place.is) in
    omega arith

pub unreachable-requires : goal.unreachable-requires
unreachable-requires c =
    has_place c.args.options.now c.in-Some.option.now
    (sym c.bad_segment.ensures ∙ ap (λ o. option_copied o) c.in-Some.is) (sym c.bad_place.ensures ∙ c.in-None.is)

pub returns : goal.returns
returns c =
    bad_segment c.args.options.now c.in-Some.option.now c.in-Some-bad_place.place
    c.in_ok-clone-in-Some-bad_place.field-0
    (sym c.bad_segment.ensures ∙ ap (λ o. option_copied o) c.in-Some.is)
    (sym c.bad_place.ensures ∙ c.in-Some-bad_place.is) c.in_ok-clone-in-Some-bad_place.ensures.cases
