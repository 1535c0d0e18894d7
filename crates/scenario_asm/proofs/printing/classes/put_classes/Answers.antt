use Rattle.std.proofs.Common.{◌<◌, sym, ap, subst, ◌∙◌, arith}
use Rattle.std.specs.List.{flat_map}
use Rattle.std.specs.String.{string_bytes}
use Rattle.device_template.specs.Built.{IsBuilt}
use Rattle.scenario_asm.specs.Canonical.{of_class, printed_lines}
use Rattle.scenario_asm.proofs.Places.{none_at, printed_next, each_next}
use Rattle.scenario_asm.proofs.printing.classes.put_classes.Goals as goal
use Rattle.scenario_asm.proofs.printing.classes.put_classes.Goals.{in-Some+in_ok-put_class, in_default}

pub loop-number-preserved : goal.loop-number-preserved
loop-number-preserved c =
    let classes = c.args.scenario.now.classes in
    let number = c.loop-number.number in
    elim c.match-class.branch [
      | in-Some+in_ok-put_class w ↦ record {
        so_far = printed_next of_class classes number _ w.in-Some.class.now (string_bytes c.loop-number.out)
            (string_bytes c.match-class.out) (string_bytes c.args.out.now) (printed_lines (flat_map of_class classes))
            (omega arith) (sym w.in-Some.ensures) (ap string_bytes w.out-is ∙ w.in_ok-put_class.ensures.text)
            c.loop-number.invariant.so_far;
        built = each_next IsBuilt classes number _ w.in-Some.class.now (omega arith)
            (sym w.in-Some.ensures) w.in_ok-put_class.ensures.built c.loop-number.invariant.built;
      }
      | in_default w ↦ absurd (none_at classes number
          (subst (λ n. number < n) c.class_count-number-end.ensures c.loop-number-test.true) (sym w.in_default.ensures))
    ]
