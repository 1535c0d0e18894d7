use Rattle.std.proofs.Common.{◌≡◌, ◌+◌, ◌-◌, ◌<◌, drop, ap, arith}
use Rattle.object_defs.proofs.Digits.{outside}
use Rattle.notifier.specs.NumberEnd.{digits_in}
use Rattle.notifier.proofs.Counting.{digits_more, digits_past, digits_stray}
use Rattle.notifier.proofs.number_end.digits_in.Goals as goal
use Rattle.notifier.proofs.number_end.digits_in.Goals.{then-count-most-via-then-count-most}
use Rattle.notifier.proofs.number_end.digits_in.Goals.{then-count-most-via-else-count-most+then-not-is_ascii_digit}

pub returns-then-count-most-clause-count : goal.returns-then-count-most-clause-count
returns-then-count-most-clause-count c =
    let h = c.loop-byte.invariant in
    elim c.then-count-most.branch [
      | then-count-most-via-then-count-most w ↦
          let full : c.args.most - c.loop-byte.byte-index ≡ 0 = omega (arith, h.count, w.if-count-most.true) in
          let none = ap (λ m. digits_in m (drop c.loop-byte.byte-index c.args.text.now)) full in
          omega (arith, h.count, h.rest, none)
      | then-count-most-via-else-count-most+then-not-is_ascii_digit w ↦
          let none = digits_stray (c.args.most - c.loop-byte.byte-index) c.args.text.now c.loop-byte.byte-index
          c.loop-byte-test.true (outside _ w.if-not-is_ascii_digit.ensures.cases) in
          omega (arith, h.count, h.rest, none)
    ]

pub loop-byte-preserved : goal.loop-byte-preserved
loop-byte-preserved c =
    let h = c.loop-byte.invariant in
    let below : c.loop-byte.byte-index < c.args.most = omega (arith, h.count, h.most, c.if-count-most.false) in
    let more = digits_more (c.args.most - c.loop-byte.byte-index) (c.args.most - (c.loop-byte.byte-index + 1))
    c.args.text.now c.loop-byte.byte-index (omega (arith, below)) c.loop-byte-test.true
    c.if-not-is_ascii_digit.ensures.cases in
    record {
      count = omega (arith, h.count);
      most = omega (arith, below);
      rest = omega (arith, h.rest, more);
    }

pub returns-clause-count : goal.returns-clause-count
returns-clause-count c =
    let h = c.loop-byte.invariant in
    let none = digits_past (c.args.most - c.loop-byte.byte-index) c.args.text.now c.loop-byte.byte-index
    c.loop-byte-test.false in
    omega (arith, h.count, h.rest, none)
