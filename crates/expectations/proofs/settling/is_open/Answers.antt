use Rattle.std.proofs.Common.{refl, ◌≡◌, ◌<◌, ◌≤◌, ◌∙◌, length, ap, sym, true, false, arith}
use Rattle.expectations.specs.Inside.{may_come}
use Rattle.expectations.proofs.Places.{next_is}
use Rattle.expectations.proofs.Settled.{all_closed, closed_at, item_is, none_closed, open_at}
use Rattle.expectations.proofs.settling.is_open.Goals as goal

pub loop-line-init : goal.loop-line-init
loop-line-init c = rw c.in_ok-places.ensures (none_closed c.args.lines.now c.args.arrivals.now c.args.end)

pub returns-then-may_come : goal.returns-then-may_come
returns-then-may_come c =
    let within : c.loop-line.line-index < length c.args.lines.now = omega (arith, c.loop-line-test.true) in
    let may : may_come c.args.end c.line-item.result.expected (length c.args.arrivals.now) c.loop-line.places.items
    ≡ true =
    ap (λ p. may_come c.args.end c.line-item.result.expected (length c.args.arrivals.now) p)
    (sym c.as_slice.ensures.value) ∙ sym c.may_come.ensures ∙ c.if-may_come.true in
    let yet = open_at c.args.lines.now c.args.arrivals.now c.args.end c.loop-line.line-index c.loop-line.places.items
    c.line-item.result (item_is c.args.lines.now c.loop-line.line-index c.line-item.result within c.line-item.is)
    c.loop-line.invariant may in
    (λ t. yet, λ o. refl)

pub loop-line-preserved : goal.loop-line-preserved
loop-line-preserved c =
    let within : c.loop-line.line-index < length c.args.lines.now = omega (arith, c.loop-line-test.true) in
    let never : may_come c.args.end c.line-item.result.expected (length c.args.arrivals.now) c.loop-line.places.items
    ≡ false =
    ap (λ p. may_come c.args.end c.line-item.result.expected (length c.args.arrivals.now) p)
    (sym c.as_slice.ensures.value) ∙ sym c.may_come.ensures ∙ c.if-may_come.false in
    closed_at c.args.lines.now c.args.arrivals.now c.args.end c.loop-line.line-index c.loop-line.places.items
    c.in_ok-places-2.places.items c.line-item.result
    (item_is c.args.lines.now c.loop-line.line-index c.line-item.result within c.line-item.is) c.loop-line.invariant
    never
    (next_is c.line-item.result.expected c.args.arrivals.now c.args.end c.as_slice-in-loop-line.result.now
    c.as_slice-in-loop-line-2.result.now c.loop-line.places.items c.in_ok-places-2.places.items
    (c.as_slice-in-loop-line.ensures.value ∙ c.in_ok-limits.ensures) c.as_slice-in-loop-line-2.ensures.value
    c.in_ok-places-2.ensures)

pub returns : goal.returns
returns c =
    let all : length c.args.lines.now ≤ c.loop-line.line-index = omega (arith, c.loop-line-test.false) in (
      λ t. cc,
      λ o. absurd (all_closed c.args.lines.now c.args.arrivals.now c.args.end c.loop-line.line-index
          c.loop-line.places.items c.loop-line.invariant all o),
    )
