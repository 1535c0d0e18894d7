use Rattle.std.proofs.Common.{◌∙◌}
use Rattle.command_join.proofs.Adding.{row_more, row_with}
use Rattle.command_join.proofs.rows.add_rows.Goals as goal

pub loop-device-preserved : goal.loop-device-preserved
loop-device-preserved c =
    let at = c.loop-device in
    record {
      classes = c.in-Ok.ensures.classes ∙ at.invariant.classes;
      rows = row_more c.args.whole.now.rows c.args.part.now.rows at.device at.whole.rows c.add_row.new.whole.rows
          (row_with c.in-Some.class c.in-Some.steps.now) at.invariant.rows c.in-Ok.ensures.rows c.in-Some.ensures;
    }
