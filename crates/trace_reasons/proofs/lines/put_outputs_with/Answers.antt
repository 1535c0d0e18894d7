use Rattle.std.proofs.Common.{◌++◌, arith}
use Rattle.std.specs.String.{string_bytes}
use Rattle.trace_reasons.specs.Text.{outputs_with}
use Rattle.trace_reasons.proofs.Cutting.{one_happening}
use Rattle.trace_reasons.proofs.lines.put_outputs_with.Goals as goal

pub loop-happening-preserved : goal.loop-happening-preserved
loop-happening-preserved c = record {
  within = omega (arith, c.place_after-after.ensures.after);
  rest = one_happening c.args.outputs.now c.args.happenings.now c.loop-happening.happening-index c.loop-happening.place
      c.place_after-after.result _
      (string_bytes c.args.out.now ++ outputs_with c.args.outputs.now c.args.happenings.now)
      (string_bytes c.loop-happening.out) (string_bytes c.put_outputs.new.out) (string_bytes c.put_happening.new.out)
      c.loop-happening-test.true c.loop-happening.invariant.within c.place_after-after.ensures.after
      c.loop-happening.invariant.rest c.in_ok-put_outputs.ensures c.in_ok-put_happening.ensures;
}
