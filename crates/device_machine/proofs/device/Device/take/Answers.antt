-- The device's own requests and those of the flat state are alike: the same ones live. What lies in the device's place
-- is what the device keeps.
use Rattle.std.proofs.Common.{◌≡◌, false, IfOk, OnOk, refl, ap, subst, sym, ◌∙◌}
use Rattle.device_machine.specs.Held.{StateWithOutlooks}
use Rattle.device_machine.specs.Reactions.{Gives, flat_after, outputs_of}
use Rattle.device_machine.specs.Records.{HaveOwnKeys, reaction_of_device}
use Rattle.device_machine.specs.State.{Machine as FlatState, Device, HaveSameMembers, Shows, with_live_records}
use Rattle.device_machine.proofs.Living.{alike_shown, living_remembered}
use Rattle.device_machine.proofs.device.Device.take.Goals as goal

pub returns-in-Ok-clause-outputs : goal.returns-in-Ok-clause-outputs
returns-in-Ok-clause-outputs c =
    let gives = subst (λ r. IfOk r (λ o. Gives o c.react-result.new.self.flat
    (reaction_of_device c.deref_mut.result.now.flat c.args.event.now))) c.in-Ok.is c.react-result.ensures.gives in
    λ f shows. subst (λ r. IfOk r (λ o. o ≡ outputs_of f c.args.event.now)) (sym c.in-Ok.is)
    (gives.sent
    ∙ (alike_shown c.args.self.now f c.deref_mut.result.now.flat
    (ap (λ (h : StateWithOutlooks). with_live_records h.flat) c.deref_mut.ensures.value
    ∙ ap (λ (d : Device). d.flat) c.self.view_is)
    (subst (λ (h : StateWithOutlooks). HaveOwnKeys h.flat.recorded)
    (c.deref.ensures ∙ sym c.deref_mut.ensures.value) c.knows_keys.ensures)
    shows c.args.event.now).outputs)

pub returns-in-Ok-clause-shows : goal.returns-in-Ok-clause-shows
returns-in-Ok-clause-shows c =
    let gives = subst (λ r. IfOk r (λ o. Gives o c.react-result.new.self.flat
    (reaction_of_device c.deref_mut.result.now.flat c.args.event.now))) c.in-Ok.is c.react-result.ensures.gives in
    let now : Device = record { spent = false; flat = with_live_records c.react-result.new.self.flat } in
    let then : with_live_records c.react-result.new.self.flat
    ≡ with_live_records (flat_after c.deref_mut.result.now.flat c.args.event.now) =
    ap with_live_records gives.then_flat
    ∙ living_remembered (flat_after c.deref_mut.result.now.flat c.args.event.now) c.args.event.now in
    λ f shows.
    let reacts = alike_shown c.args.self.now f c.deref_mut.result.now.flat
    (ap (λ (h : StateWithOutlooks). with_live_records h.flat) c.deref_mut.ensures.value
    ∙ ap (λ (d : Device). d.flat) c.self.view_is)
    (subst (λ (h : StateWithOutlooks). HaveOwnKeys h.flat.recorded)
    (c.deref.ensures ∙ sym c.deref_mut.ensures.value) c.knows_keys.ensures)
    shows c.args.event.now in
    subst (λ r. OnOk r (Shows now (flat_after f c.args.event.now))) (sym c.in-Ok.is)
    (record {
      ready = refl;
      kept = ap (λ (g : FlatState). g.kept) then ∙ reacts.kept_then;
      recorded = subst (λ (g : FlatState). HaveSameMembers g.recorded
          (with_live_records (flat_after f c.args.event.now)).recorded) (sym then) reacts.living_then;
    })
