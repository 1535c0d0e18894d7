use Rattle.std.proofs.Common.{◌≡◌, ◌++◌, ◌∷◌, [], sym, ap, subst, ◌∙◌, inr}
use Rattle.std.specs.List.{slice_split}
use Rattle.fleet_wire.specs.Reading.{is_comma, next_span, spans_from, spans_of}
use Rattle.fleet_wire.proofs.Spans.{after_all, all_read, one_read, one_refused}
use Rattle.fleet_wire.proofs.reading.read_spans.Goals as goal

pub returns-in-Err : goal.returns-in-Err
returns-in-Err c =
    let l = c.loop-spans in
    inr (one_refused l.spans.items l.rest.now c.in-Some.place l.last (spans_of c.args.text.now) c.in-Err.fault
    (sym c.in-Some.ensures.found) (sym (c.in-Err.ensures ∙ ap (next_span l.last) c.before_place.ensures)) l.invariant)

pub loop-spans-preserved : goal.loop-spans-preserved
loop-spans-preserved c =
    let l = c.loop-spans in
    let span = c.in-Ok.span in
    let said = spans_of c.args.text.now in
    let read = one_read l.spans.items span l.rest.now c.in-Some.place l.last said (sym c.in-Some.ensures.found)
    (sym (c.in-Ok.ensures ∙ ap (next_span l.last) c.before_place.ensures)) l.invariant in
    subst (λ t. after_all t (spans_from (slice_split is_comma c.after_place-rest.result.now) span.to) ≡ said)
    (sym c.in-Ok-push.ensures.items)
    (subst (λ t. after_all (l.spans.items ++ span ∷ []) (spans_from (slice_split is_comma t) span.to) ≡ said)
    (sym c.after_place-rest.ensures) read)

pub returns-in-None : goal.returns-in-None
returns-in-None c =
    let l = c.loop-spans in
    all_read c.with_last.result (λ v. v.items) l.spans.items l.rest.now l.last (spans_of c.args.text.now)
    (sym c.in-None.ensures.found) l.invariant c.with_last.ensures
