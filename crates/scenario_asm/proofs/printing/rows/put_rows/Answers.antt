use Rattle.std.proofs.Common.{◌<◌, sym, ap, subst, ◌∙◌, arith}
use Rattle.std.specs.List.{flat_map}
use Rattle.std.specs.String.{string_bytes}
use Rattle.scenario_image.specs.Scenario.{Row}
use Rattle.scenario_asm.specs.Canonical.{of_row, printed_lines}
use Rattle.scenario_asm.proofs.Places.{none_at, printed_next}
use Rattle.scenario_asm.proofs.printing.rows.put_rows.Goals as goal
use Rattle.scenario_asm.proofs.printing.rows.put_rows.Goals.{in-Some+in_ok-put_row, in_default}

pub loop-device-preserved : goal.loop-device-preserved
loop-device-preserved c =
    let rows = c.args.scenario.now.rows in
    let device = c.loop-device.device in
    elim c.match-row.branch [
      | in-Some+in_ok-put_row w ↦
          let row : Row = record { class = w.in-Some.class; steps = w.in-Some.steps.now } in
          printed_next of_row rows device _ row (string_bytes c.loop-device.out) (string_bytes c.match-row.out)
          (string_bytes c.args.out.now) (printed_lines (flat_map of_row rows))
          (omega arith) (sym w.in-Some.ensures) (ap string_bytes w.out-is ∙ w.in_ok-put_row.ensures)
          c.loop-device.invariant
      | in_default w ↦ absurd (none_at rows device
          (subst (λ n. device < n) c.rows-device-end.ensures.count c.loop-device-test.true) (sym w.in_default.ensures))
    ]
