use Rattle.std.proofs.Common.{◌≡◌, ℕ, List, ◌++◌, Some, length, map, slice_get, refl, ap, subst, ◌∙◌}
use Rattle.std.specs.String.{string_bytes}
use Rattle.std.proofs.lemmas.Option.{slice_get_read}
use Rattle.trace_json.specs.Reasons.{reasoned_output_json}
use Rattle.trace_json.specs.Writing.{Has64Bits, tokens_of}
use Rattle.trace_json.proofs.Reasoned.{exact_more, next_at, tokens_more}
use Rattle.trace_json.proofs.reasons.put_outputs.Goals as goal

pub loop-place-preserved : goal.loop-place-preserved
loop-place-preserved c =
    let outputs = c.args.outputs.now in
    let whys : List (List ℕ) = map (λ w. string_bytes w) c.args.whys.now in
    let place = c.loop-place.place in
    let output = c.index-outputs-place.result in
    let one = reasoned_output_json output (slice_get whys place) in
    let at : slice_get outputs place ≡ Some output =
    slice_get_read outputs (length outputs) place output refl c.loop-place-test.true c.index-outputs-place.is in
    let next = next_at outputs whys place output at in
    record {
      so_far = tokens_more _ _ one _ _ _ next
          (c.in_ok-put_output.ensures.adds
          ∙ ap (λ o. c.loop-place.out.tokens ++ tokens_of (reasoned_output_json output o)) c.why_at.ensures)
          c.loop-place.invariant.so_far;
      before = c.in_ok-put_output.ensures.before ∙ c.loop-place.invariant.before;
      exact = exact_more _ _ one next
          (subst (λ o. Has64Bits (reasoned_output_json output o)) c.why_at.ensures c.in_ok-put_output.ensures.exact)
          c.loop-place.invariant.exact;
    }
