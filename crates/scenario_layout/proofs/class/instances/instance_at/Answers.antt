use Rattle.std.proofs.Common.{sym, ap, ◌∙◌}
use Rattle.lemmas.proofs.Options.{not_refused}
use Rattle.scenario_layout.specs.Class.{instances_in}
use Rattle.scenario_layout.proofs.Filling.{refused, instance_refused, instance_fits, instance_added}
use Rattle.scenario_layout.proofs.Items.{instance_bad, instance_good, instance_made, last_in}
use Rattle.scenario_layout.proofs.class.instances.instance_at.Goals as goal

pub returns-in-Err-clause-read : goal.returns-in-Err-clause-read
returns-in-Err-clause-read c =
    rw c.refusal.ensures (refused c.in-Err.fault _ _ (λ other.
    instance_bad c.args.template.now c.args.bytes.now c.in_ok-place.place c.in_ok-place.rest.now
    c.in_ok-place.ensures.read (instance_refused c.args.template.now c.in_ok-place.place c.in-Err.fault
    (c.in-Err.ensures.refused other))))

pub returns-clause-read : goal.returns-clause-read
returns-clause-read c =
    let above = c.requires c.in_ok-place.place ∙ sym c.is_behind.ensures ∙ c.if-not-is_behind.false in
    instance_good c.args.template.now c.add_instance.new.self c.args.bytes.now c.in_ok-place.place
    c.in_ok-place.rest.now c.in_ok-place.ensures.read
    (instance_fits c.args.template.now c.in_ok-place.place above
    (not_refused _ c.add_instance.result c.in_default.field-0 c.in_default.is c.add_instance.ensures.refuses))
    (ap instances_in c.in_default.ensures.added ∙ instance_added c.args.template.now c.in_ok-place.place above)

pub returns-clause-made : goal.returns-clause-made
returns-clause-made c =
    instance_made c.args.template.now c.add_instance.new.self c.in_ok-place.place c.in_default.ensures.added

pub returns-clause-last : goal.returns-clause-last
returns-clause-last c =
    let above = c.requires c.in_ok-place.place ∙ sym c.is_behind.ensures ∙ c.if-not-is_behind.false in
    last_in c.args.template.now c.add_instance.new.self c.in_ok-place.place above
    (ap instances_in c.in_default.ensures.added ∙ instance_added c.args.template.now c.in_ok-place.place above)
