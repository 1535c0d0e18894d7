use Rattle.std.proofs.Common.{◌∷◌, [], ◌++◌, take, sym, ap, ◌∙◌}
use Rattle.lemmas.proofs.Lists.{take_one_more}
use Rattle.scenario_image.specs.Scenario.{Scenario}
use Rattle.command_fleet.proofs.devices.copy_classes.Goals as goal

pub loop-place-preserved : goal.loop-place-preserved
loop-place-preserved c =
    let at = c.loop-place in
    record {
      classes = ap (λ (s : Scenario). s.classes) c.in-Ok.ensures.added
          ∙ ap (λ cs. cs ++ c.in_ok-class.class ∷ []) at.invariant.classes
          ∙ ap (λ x. take at.place c.args.scenario.now.classes ++ x ∷ []) c.in_ok-class.ensures
          ∙ sym (take_one_more c.args.scenario.now.classes at.place c.in-Some.class.now (sym c.in-Some.ensures));
      rows = ap (λ (s : Scenario). s.rows) c.in-Ok.ensures.added ∙ at.invariant.rows;
    }
