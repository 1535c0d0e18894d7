use Rattle.std.proofs.Common.{arith, inr, ap, ◌++◌, ◌∙◌}
use Rattle.std.proofs.lemmas.Result.{err_from_is_err_and}
use Rattle.std.proofs.lemmas.Slice.{first_rest}
use Rattle.std.proofs.lemmas.Bool.{ne_eqb}
use Rattle.coap_codec.specs.Message.{options_bytes}
use Rattle.coap_codec.proofs.OptionLists.{breaks_off, first_option, first_fits}
use Rattle.coap_codec.proofs.WithoutOptions.{marker_first, nothing_left}
use Rattle.coap_codec.proofs.reading.options_at.Goals as goal

pub returns-in_err-number-clause-fault : goal.returns-in_err-number-clause-fault
returns-in_err-number-clause-fault c =
    let known = c.loop-rest.invariant in
    let here = first_rest c.loop-rest.rest.now 0 (omega (arith, c.in-len1-up.len_at_least)) in
    let p = err_from_is_err_and c.from_residual.result c.from_residual.ensures.1 in
    rw (p.1, p.2) (λ live. breaks_off _ _ _ _ _ _ _ known.is_list known.last known.parts here
    (ne_eqb _ 255 c.if-first.false) (c.in_err-number.ensures.fault live))

pub loop-rest-preserved : goal.loop-rest-preserved
loop-rest-preserved c =
    let known = c.loop-rest.invariant in
    let here = first_rest c.loop-rest.rest.now 0 (omega (arith, c.in-len1-up.len_at_least)) in
    let o = c.in_ok-number.ensures in
    record {
      is_list = o.list;
      parts = known.parts ∙ (ap (λ x. options_bytes 0 c.loop-rest.found.items ++ x) here ∙ o.parts);
      last = o.last;
      begun = inr (first_fits _ _ _ _ _ known.begun here (ne_eqb _ 255 c.if-first.false)
          (λ f e. absurd (cc (o.refused f e))));
    }

pub returns-in_err-number-clause-early : goal.returns-in_err-number-clause-early
returns-in_err-number-clause-early c = λ f wrong.
    let here = first_rest c.loop-rest.rest.now 0 (omega (arith, c.in-len1-up.len_at_least)) in
    let p = err_from_is_err_and c.from_residual.result c.from_residual.ensures.1 in
    let same = c.in_err-number.ensures.refused f
    (first_option _ _ _ _ _ f c.loop-rest.invariant.begun here (ne_eqb _ 255 c.if-first.false) wrong) in
    rw (p.1, p.2) (cc)

pub returns-then-is_empty-clause-alone : goal.returns-then-is_empty-clause-alone
returns-then-is_empty-clause-alone c = λ payload is.
    let here = first_rest c.loop-rest.rest.now 0 (omega (arith, c.in-len1-up.len_at_least)) in
    let m = marker_first _ _ _ _ payload _ c.loop-rest.invariant.parts here is in
    absurd (grind (arith, m.2, c.is_empty.ensures, c.if-is_empty.true))

pub returns-then-first-clause-alone : goal.returns-then-first-clause-alone
returns-then-first-clause-alone c = λ payload is.
    let here = first_rest c.loop-rest.rest.now 0 (omega (arith, c.in-len1-up.len_at_least)) in
    (marker_first _ _ _ _ payload _ c.loop-rest.invariant.parts here is).1

pub returns-in_err-number-clause-alone : goal.returns-in_err-number-clause-alone
returns-in_err-number-clause-alone c = λ payload is.
    let here = first_rest c.loop-rest.rest.now 0 (omega (arith, c.in-len1-up.len_at_least)) in
    absurd (c.if-first.false (marker_first _ _ _ _ payload _ c.loop-rest.invariant.parts here is).0)

pub returns-clause-alone : goal.returns-clause-alone
returns-clause-alone c = λ payload is.
    nothing_left _ _ payload _ c.loop-rest.invariant.parts is (omega (arith, c.in_default.len_below))
