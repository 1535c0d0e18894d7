use Rattle.std.proofs.Common.{◌≡◌, ◌∷◌, [], ◌++◌, ◌+◌, length, slice_get, Some, refl, sym, ap, ◌∙◌, append_assoc, arith}
use Rattle.std.proofs.lemmas.Option.{slice_get_within}
use Rattle.std.specs.Vec.Iter.{into_iter_items}
use Rattle.scenario_image.specs.Scenario.{Row}
use Rattle.fleet_link.proofs.Rows.{saved_more}
use Rattle.fleet_link.proofs.fleet.Fleet.into_scenario.Goals as goal

pub loop-slot-preserved : goal.loop-slot-preserved
loop-slot-preserved c =
    let at = c.loop-slot in
    let x = c.in-Some.slot in
    let steps : into_iter_items at.slot-iterator ≡ x ∷ into_iter_items c.next.new.self = c.in-Some.ensures.steps.0 in
    let row : Row = record { class = c.in-Some-row.class; steps = c.in-Some-row.field-0-1.now } in
    let here : slice_get c.args.scenario.now.rows at.device ≡ Some row = sym c.in-Some-row.ensures in
    let within = slice_get_within c.args.scenario.now.rows at.device row here in
    let few = c.rows-known.ensures.valid.rows in
    let next : c.saturating_add-device.result ≡ at.device + 1 =
    omega (arith, within, few, c.saturating_add-device.ensures) in
    record {
      left = append_assoc at.yielded (x ∷ []) _ ∙ ap (λ ys. at.yielded ++ ys) (sym steps) ∙ at.invariant.left;
      count = (let was = at.invariant.count in let gone = c.in-Some.ensures.steps.1 in let short =
          ap length steps in omega arith);
      saved = saved_more c.args.scenario.now at.yielded (at.yielded ++ x ∷ []) x at.saved c.add_row.new.scenario
          c.in-Some-row.class at.device c.saturating_add-device.result row at.invariant.saved here refl
          c.in_ok-add_row.ensures.classes
          (c.in_ok-add_row.ensures.rows
          ∙ ap (λ xs. at.saved.rows ++ record { class = c.in-Some-row.class; steps = xs } ∷ []) c.into_steps.ensures)
          refl next;
    }
