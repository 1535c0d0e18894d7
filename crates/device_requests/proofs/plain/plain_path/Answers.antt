use Rattle.std.proofs.Common.{arith, sym}
use Rattle.std.proofs.lemmas.Slice.{first_rest}
use Rattle.device_requests.proofs.PlainPaths.{all_before, never_longer, never_missed, never_other, none_named}
use Rattle.device_requests.proofs.PlainPaths.{nothing_named, segment_after, segment_before}
use Rattle.device_requests.proofs.plain.plain_path.Goals as goal

pub returns-in_err-segment-clause-none : goal.returns-in_err-segment-clause-none
returns-in_err-segment-clause-none c =
    let here = first_rest c.loop-rest.rest.now 0 (omega (arith, c.in-len1-up.len_at_least)) in
    none_named _ _ (λ whole spells. never_missed _ _ _ _ _ whole (c.loop-rest.invariant.after whole spells) here
    c.in_err-segment.ensures.none)

pub returns-in_err-decimal_number-clause-none : goal.returns-in_err-decimal_number-clause-none
returns-in_err-decimal_number-clause-none c =
    let here = first_rest c.loop-rest.rest.now 0 (omega (arith, c.in-len1-up.len_at_least)) in
    let found = c.in_ok-segment.ensures in
    none_named _ _ (λ whole spells. never_other _ _ _ _ _ _ _ whole (c.loop-rest.invariant.after whole spells) here
    found.first found.parts (sym c.in_err-decimal_number.ensures.value))

pub returns-in_err-extended-clause-none : goal.returns-in_err-extended-clause-none
returns-in_err-extended-clause-none c =
    let here = first_rest c.loop-rest.rest.now 0 (omega (arith, c.in-len1-up.len_at_least)) in
    let found = c.in_ok-segment.ensures in
    none_named _ _ (λ whole spells. never_longer _ _ _ _ _ _ _ _ whole (c.loop-rest.invariant.after whole spells) here
    found.first found.parts (sym c.in_ok-decimal_number.ensures.value) (sym c.in_err-extended.ensures))

pub loop-rest-preserved : goal.loop-rest-preserved
loop-rest-preserved c =
    let known = c.loop-rest.invariant in
    let here = first_rest c.loop-rest.rest.now 0 (omega (arith, c.in-len1-up.len_at_least)) in
    let found = c.in_ok-segment.ensures in
    let number = sym c.in_ok-decimal_number.ensures.value in
    let longer = sym c.in_ok-extended.ensures in
    record {
      before = segment_before _ _ _ _ _ _ _ _ _ _ known.before here found.first found.parts found.short number longer;
      after = λ whole spells. segment_after _ _ _ _ _ _ _ _ _ whole (known.after whole spells) here found.first
          found.parts number longer;
    }

pub returns-clause-found : goal.returns-clause-found
returns-clause-found c = all_before _ _ _ _ c.loop-rest.invariant.before (omega (arith, c.in_default.len_below))

pub returns-clause-none : goal.returns-clause-none
returns-clause-none c = nothing_named _ _ _ _ c.loop-rest.invariant.after (omega (arith, c.in_default.len_below))
