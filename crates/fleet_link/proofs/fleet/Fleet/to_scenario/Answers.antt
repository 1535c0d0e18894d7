use Rattle.std.proofs.Common.{◌≡◌, ◌∷◌, [], ◌++◌, ◌+◌, ◌<◌, length, take, get_or, slice_get, Some, sym, ap, subst, ◌∙◌, refl, arith}
use Rattle.std.proofs.lemmas.Grind.{take_at_read}
use Rattle.std.proofs.lemmas.List.{take_all}
use Rattle.std.proofs.lemmas.Option.{slice_get_within}
use Rattle.lemmas.proofs.Lists.{take_none}
use Rattle.scenario_image.specs.Scenario.{Row}
use Rattle.fleet_link.specs.Saved.{IsSaved}
use Rattle.fleet_link.proofs.Rows.{none_saved, saved_more, AreSaved}
use Rattle.fleet_link.proofs.fleet.Fleet.to_scenario.Goals as goal

pub loop-slot-init : goal.loop-slot-init
loop-slot-init c =
    subst (λ l. AreSaved c.args.scenario.now l c.in_ok-saved.saved 0) (sym (take_none c.args.self.now.slots.items))
    (none_saved c.args.scenario.now c.in_ok-saved.saved c.in_ok-saved.ensures.classes c.in_ok-saved.ensures.rows)

pub loop-slot-preserved : goal.loop-slot-preserved
loop-slot-preserved c =
    let at = c.loop-slot in
    let slots = c.args.self.now.slots.items in
    let x = c.slot-item.result in
    let within : at.slot-index < length slots =
    omega (arith, c.loop-slot-test.true, ap length c.deref-slot-items.ensures.value) in
    let is : x ≡ get_or slots at.slot-index x =
    c.slot-item.is ∙ ap (λ xs. get_or xs at.slot-index x) c.deref-slot-items.ensures.value in
    let taken : take (at.slot-index + 1) slots ≡ take at.slot-index slots ++ x ∷ [] =
    (take_at_read slots at.slot-index x within).1 ∙ ap (λ y. take at.slot-index slots ++ y ∷ []) (sym is) in
    let row : Row = record { class = c.in-Some.class; steps = c.in-Some.field-0-1.now } in
    let here : slice_get c.args.scenario.now.rows at.device ≡ Some row = sym c.in-Some.ensures in
    let there = slice_get_within c.args.scenario.now.rows at.device row here in
    let few = c.rows-known.ensures.valid.rows in
    let next : c.saturating_add-device.result ≡ at.device + 1 =
    omega (arith, there, few, c.saturating_add-device.ensures) in
    saved_more c.args.scenario.now (take at.slot-index slots) (take (at.slot-index + 1) slots) x at.saved
    c.add_row.new.scenario c.in-Some.class at.device c.saturating_add-device.result row at.invariant here refl
    c.in_ok-add_row.ensures.classes
    (c.in_ok-add_row.ensures.rows
    ∙ ap (λ xs. at.saved.rows ++ record { class = c.in-Some.class; steps = xs } ∷ []) c.in_ok-copy_steps.ensures)
    taken next

pub returns : goal.returns
returns c =
    let at = c.loop-slot in
    let slots = c.args.self.now.slots.items in
    subst (λ l. IsSaved c.args.scenario.now l at.saved)
    (take_all at.slot-index slots (omega (arith, c.loop-slot-test.false, ap length c.deref-slot-items.ensures.value)))
    at.invariant.saved_is
