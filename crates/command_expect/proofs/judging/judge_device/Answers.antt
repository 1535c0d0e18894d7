use Rattle.std.proofs.Common.{◌∙◌, length, refl, subst}
use Rattle.std.proofs.lemmas.Option.{slice_get_read}
use Rattle.expectations.specs.Arrivals.{arrivals_of}
use Rattle.expectations.specs.Laying.{IsVerdict}
use Rattle.command_expect.proofs.Judged.{one_more}
use Rattle.command_expect.proofs.judging.judge_device.Goals as goal

pub loop-chosen-preserved : goal.loop-chosen-preserved
loop-chosen-preserved c = λ before held.
    let lines = c.chosen-item.result.case.now.lines in
    let of_lines = subst
    (λ ls. IsVerdict c.in_ok-verdict.verdict ls c.as_slice-in-loop-chosen.result.now c.end_of_row-end.result)
    c.as_slice.ensures c.in_ok-verdict.ensures in
    let of_arrivals = subst (λ as_. IsVerdict c.in_ok-verdict.verdict lines as_ c.end_of_row-end.result)
    (c.as_slice-in-loop-chosen.ensures.value ∙ c.in_ok-arrivals.ensures) of_lines in
    let right = subst
    (λ end. IsVerdict c.in_ok-verdict.verdict lines (arrivals_of c.args.scenario.now c.args.device) end)
    c.end_of_row-end.ensures of_arrivals in
    one_more c.args.scenario.now c.args.cases.now c.args.device c.loop-chosen.chosen-index c.chosen-item.result before
    c.loop-chosen.all.items c.add.new.all.items c.told.result (c.loop-chosen.invariant before held)
    (slice_get_read c.args.cases.now (length c.args.cases.now) c.loop-chosen.chosen-index c.chosen-item.result refl
    c.loop-chosen-test.true c.chosen-item.is)
    (c.told.ensures c.args.scenario.now right) c.in_ok-add.ensures
