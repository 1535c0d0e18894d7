use Rattle.std.proofs.Common.{length, ap, arith}
use Rattle.scenario_image.proofs.Counting.{one_row_more, few_steps}
use Rattle.scenario_image.proofs.scenario.Scenario.steps.Goals as goal

pub overflow_add-total : goal.overflow_add-total
overflow_add-total c =
    let few = few_steps c.args.self.now c.all_rows-rows.result.now c.loop-row.row-index c.row-item.result
    c.all_rows-rows.ensures.lent c.all_rows-rows.ensures.valid c.loop-row-test.true c.row-item.is in
    omega (arith, few, c.loop-row.invariant, ap length c.steps.ensures)

pub loop-row-preserved : goal.loop-row-preserved
loop-row-preserved c =
    let more = one_row_more c.all_rows-rows.result.now c.loop-row.row-index c.row-item.result c.loop-row-test.true
    c.row-item.is in
    omega (arith, more, c.loop-row.invariant, ap length c.steps.ensures)
