use Rattle.std.proofs.Common.{get_or, arith, eqb-true, below_more, cond, ltb, Some, None, sym, ap, ◌∙◌}
use Rattle.std.proofs.lemmas.Bool.{eqb-false}
use Rattle.std.specs.Int.{IsInRange}
use Rattle.std.proofs.lemmas.Int.Digits.{digits_value_more}
use Rattle.object_defs.proofs.Digits.{none-empty, none-long, none-zero, none-other, zero_alone, decimal_number-digits}
use Rattle.object_defs.proofs.Digits.{digit_value-digit, short_number, outside, narrowed, all_read}
use Rattle.object_defs.proofs.decimal.read.Goals as goal

pub returns-then-is_empty : goal.returns-then-is_empty
returns-then-is_empty c = none-empty c.args.segment.now (eqb-true _ _ (sym (c.if-is_empty.ensures)))

pub returns-then-segment-gt5 : goal.returns-then-segment-gt5
returns-then-segment-gt5 c = none-long c.args.segment.now c.if-segment-gt5.true

pub returns-then-segment-eq1 : goal.returns-then-segment-eq1
returns-then-segment-eq1 c = zero_alone c.args.segment.now c.if-segment-eq48.true c.if-segment-eq1.true

pub returns-else-segment-eq1 : goal.returns-else-segment-eq1
returns-else-segment-eq1 c = none-zero c.args.segment.now c.if-segment-eq48.true c.if-segment-eq1.false

pub returns-then-not-is_ascii_digit : goal.returns-then-not-is_ascii_digit
returns-then-not-is_ascii_digit c =
    none-other c.args.segment.now c.loop-byte.byte-index c.loop-byte-test.true
    (outside _ c.if-not-is_ascii_digit.ensures.cases)

pub overflow_mul-number : goal.overflow_mul-number
overflow_mul-number c =
    omega (
      arith,
      c.loop-byte.invariant.number,
      short_number c.args.segment.now c.loop-byte.byte-index c.loop-byte.invariant.digits (omega arith) (omega arith),
    )

pub overflow_add-number : goal.overflow_add-number
overflow_add-number c =
    omega (
      arith,
      c.loop-byte.invariant.number,
      short_number c.args.segment.now c.loop-byte.byte-index c.loop-byte.invariant.digits (omega arith) (omega arith),
    )

pub loop-byte-preserved : goal.loop-byte-preserved
loop-byte-preserved c =
    let digit : IsInRange 48 57 (get_or c.args.segment.now c.loop-byte.byte-index 0) =
    c.if-not-is_ascii_digit.ensures.cases in
    record {
      digits = below_more _ _ c.loop-byte.invariant.digits digit;
      number = omega (
        arith,
        c.loop-byte.invariant.number,
        digits_value_more 10 c.args.segment.now c.loop-byte.byte-index c.loop-byte-test.true,
        digit_value-digit _ digit,
        c.from.ensures,
      );
    }

pub returns : goal.returns
returns c =
    let number = all_read c.args.segment.now c.loop-byte.byte-index c.loop-byte.number c.loop-byte-test.false
    c.loop-byte.invariant.number in
    c.ok.ensures.value
    ∙ narrowed c.try_from.result c.loop-byte.number c.try_from.ensures
    ∙ ap (λ n. cond (ltb n 65536) (Some n) None) number
    ∙ sym (decimal_number-digits c.args.segment.now (λ k h. c.loop-byte.invariant.digits k (omega arith))
    (omega (arith, eqb-false _ _ (sym c.if-is_empty.ensures))) c.if-segment-eq48.false c.if-segment-gt5.false)
