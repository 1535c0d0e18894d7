use Rattle.std.proofs.Common.{◌≡◌, ◌<◌, ◌∙◌, length, ap, sym, true, false, arith}
use Rattle.std.specs.Prelude.{is_some}
use Rattle.std.specs.List.{list_any}
use Rattle.expectations.proofs.Places.{laid_at, missed_at, next_is, none_laid}
use Rattle.expectations.proofs.judging.judge.Goals as goal

pub loop-place-init : goal.loop-place-init
loop-place-init c = rw c.in_ok-places.ensures (none_laid c.args.lines.now c.args.arrivals.now c.args.end)

pub returns-then-not-is_reached : goal.returns-then-not-is_reached
returns-then-not-is_reached c =
    let within : c.loop-place.place < length c.args.lines.now = omega (arith, c.loop-place-test.true) in
    let none : list_any is_some c.in_ok-places-2.places.items ≡ false =
    ap (λ p. list_any is_some p) (sym c.as_slice-in-loop-place-2.ensures.value) ∙ sym c.is_reached.ensures
    ∙ c.if-not-is_reached.true in
    missed_at c.args.lines.now c.args.arrivals.now c.args.end c.loop-place.place c.loop-place.places.items
    c.in_ok-places-2.places.items c.index-lines-place.result within c.index-lines-place.is c.loop-place.invariant
    (next_is c.index-lines-place.result.expected c.args.arrivals.now c.args.end c.as_slice.result.now
    c.as_slice-in-loop-place.result.now c.loop-place.places.items c.in_ok-places-2.places.items
    (c.as_slice.ensures.value ∙ c.in_ok-limits.ensures)
    c.as_slice-in-loop-place.ensures.value c.in_ok-places-2.ensures) none

pub loop-place-preserved : goal.loop-place-preserved
loop-place-preserved c =
    let within : c.loop-place.place < length c.args.lines.now = omega (arith, c.loop-place-test.true) in
    let some : list_any is_some c.in_ok-places-2.places.items ≡ true =
    ap (λ p. list_any is_some p) (sym c.as_slice-in-loop-place-2.ensures.value) ∙ sym c.is_reached.ensures
    ∙ c.if-not-is_reached.false in
    laid_at c.args.lines.now c.args.arrivals.now c.args.end c.loop-place.place c.loop-place.places.items
    c.in_ok-places-2.places.items c.index-lines-place.result within c.index-lines-place.is c.loop-place.invariant
    (next_is c.index-lines-place.result.expected c.args.arrivals.now c.args.end c.as_slice.result.now
    c.as_slice-in-loop-place.result.now c.loop-place.places.items c.in_ok-places-2.places.items
    (c.as_slice.ensures.value ∙ c.in_ok-limits.ensures)
    c.as_slice-in-loop-place.ensures.value c.in_ok-places-2.ensures) some
