use Rattle.std.proofs.Common.{◌+◌, length, ap, sym, subst, ◌∙◌, arith}
use Rattle.device_requests.specs.Options.{queries_of}
use Rattle.request_reasons.specs.Unfit.{IsBadQuery, IsNumberEnd}
use Rattle.request_reasons.proofs.Spelled.{first_and_others, rest_bad, rest_read}
use Rattle.request_reasons.proofs.queries.changes_in.Goals as goal

pub returns-in_default-fault : goal.returns-in_default-fault
returns-in_default-fault c m server path =
    let is = c.in-Err.ensures.fault c.in_default-fault.not-Memory in
    let all = queries_of c.args.options.now in
    let bad = rest_bad c.args.level all c.loop-rest.rest.now c.option-item.result c.as_slice-query.result.now
    c.loop-rest.changes c.loop-rest.place c.in-Err.fault c.loop-rest.invariant.0 c.in-len1-up.len_at_least
    c.option-item.is c.if-option-eq-URI_QUERY.true c.as_slice-query.ensures is in
    subst (λ bytes. IsBadQuery c.args.level all (c.loop-rest.place + 1) bytes c.in-Err.fault
    × IsNumberEnd bytes c.in-Err.fault c.number_end-at.result)
    (c.as_slice-query.ensures ∙ sym c.in_ok-bytes-in_default-fault.ensures.cases)
    (bad, c.number_end-at.ensures bad.changes c.args.level bad.refused)

pub loop-rest-preserved-in-Ok : goal.loop-rest-preserved-in-Ok
loop-rest-preserved-in-Ok c = (
  rest_read c.args.level (queries_of c.args.options.now) c.loop-rest.rest.now c.option-item.result
      c.as_slice-query.result.now c.loop-rest.changes c.add_query.new.self c.loop-rest.place c.loop-rest.invariant.0
      c.in-len1-up.len_at_least c.option-item.is c.if-option-eq-URI_QUERY.true c.as_slice-query.ensures
      (rw c.in-Ok.is at c.add_query.ensures.ok),
  omega (
    arith,
    ap length (first_and_others c.loop-rest.rest.now c.option-item.result c.in-len1-up.len_at_least
        c.option-item.is),
    c.loop-rest.invariant.1,
  ),
)
