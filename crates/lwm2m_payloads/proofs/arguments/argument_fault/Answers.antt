use Rattle.std.proofs.Common.{not, sym, ap, ◌∙◌, arith}
use Rattle.lwm2m_payloads.proofs.Stopping.{ends_early, ends_well, none_left, one_off, one_on, stops_at}
use Rattle.lwm2m_payloads.proofs.arguments.argument_fault.Goals as goal

pub returns-in-Nowhere-clause-place : goal.returns-in-Nowhere-clause-place
returns-in-Nowhere-clause-place c =
    let i = c.loop-byte.invariant in
    stops_at c.args.payload.now c.loop-byte.at c.loop-byte.byte-index c.loop-byte.place c.step.result i.at
    c.loop-byte-test.true i.led i.some c.step.ensures c.in-Nowhere.is

pub returns-in-Nowhere-clause-test : goal.returns-in-Nowhere-clause-test
returns-in-Nowhere-clause-test c =
    sym (ap not (none_left c.args.payload.now c.loop-byte.byte-index c.loop-byte.place c.step.result
    c.loop-byte-test.true c.loop-byte.invariant.left c.step.ensures c.in-Nowhere.is))

pub loop-byte-preserved : goal.loop-byte-preserved
loop-byte-preserved c =
    let i = c.loop-byte.invariant in
    record {
      at = omega (arith, i.at);
      led = one_on c.args.payload.now c.loop-byte.byte-index c.loop-byte.place c.step.result c.loop-byte-test.true
          i.led c.step.ensures;
      some = c.in_default.not-Nowhere;
      left = one_off c.args.payload.now c.loop-byte.byte-index c.loop-byte.place c.step.result c.loop-byte-test.true
          i.left c.step.ensures;
    }

pub returns-then-is_end-clause-place : goal.returns-then-is_end-clause-place
returns-then-is_end-clause-place c =
    ends_well c.args.payload.now c.loop-byte.byte-index c.loop-byte.place c.loop-byte-test.false
    c.loop-byte.invariant.left (sym c.is_end.ensures ∙ c.if-is_end.true)

pub returns-else-is_end-clause-place : goal.returns-else-is_end-clause-place
returns-else-is_end-clause-place c =
    let i = c.loop-byte.invariant in
    ends_early c.args.payload.now c.loop-byte.at c.loop-byte.byte-index c.loop-byte.place i.at
    c.loop-byte.auto.byte-index-end c.loop-byte-test.false i.led i.some i.left
    (sym c.is_end.ensures ∙ c.if-is_end.false)
