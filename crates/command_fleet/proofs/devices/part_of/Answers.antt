use Rattle.std.proofs.Common.{◌∷◌, [], ◌++◌, ◌∙◌, ap, slice_get}
use Rattle.scenario_image.specs.Scenario.{Row}
use Rattle.command_fleet.specs.Devices.{count_of}
use Rattle.command_fleet.proofs.Parts.{length_more, rows_more}
use Rattle.command_fleet.proofs.devices.part_of.Goals as goal

pub loop-place-preserved : goal.loop-place-preserved
loop-place-preserved c =
    let at = c.loop-place in
    let rows = c.args.scenario.now.rows in
    let row : Row = record { class = c.in-Some.class; steps = c.in-Some.steps.now } in
    record {
      classes = c.in-Ok.ensures.classes ∙ at.invariant.classes;
      count = length_more at.part.rows _ _ at.place at.invariant.count c.in-Ok.ensures.rows;
      each = rows_more rows c.args.devices (count_of c.args.devices) c.args.played at.place row at.part.rows _
          at.invariant.count
          (c.in-Some.ensures ∙ ap (slice_get rows) c.row_at.ensures) at.invariant.each
          (c.in-Ok.ensures.rows
          ∙ ap (λ ss. at.part.rows ++ record { class = c.in-Some.class; steps = ss } ∷ []) c.in_ok-own.ensures);
    }
