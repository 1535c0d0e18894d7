use Rattle.std.proofs.Common.{Ok, sym, ap, ◌∙◌, arith}
use Rattle.scenario_layout.proofs.ObjectRead.{new_found, definitions_good, object_behind, object_read, object_kept}
use Rattle.scenario_layout.proofs.class.objects.object_at.Goals as goal

pub define-requires-clause-new : goal.define-requires-clause-new
define-requires-clause-new c =
    new_found c.args.template.now c.object_id_at.new.template c.in_ok-id.id c.requires c.in_ok-id.ensures.above
    c.in_ok-id.ensures.made

pub define-requires-clause-good : goal.define-requires-clause-good
define-requires-clause-good c =
    definitions_good c.args.template.now c.args.bytes.now c.in_ok-id.id c.in_ok-id.rest.now c.deref.result.now
    c.in_ok-definitions.rest.now (λ i. omega (arith, c.type_inv.bytes i)) c.in_ok-id.ensures.read
    (c.in_ok-definitions.ensures ∙ ap (λ ds. Ok (ds, c.in_ok-definitions.rest.now)) (sym c.deref.ensures.value))

pub returns-clause-read : goal.returns-clause-read
returns-clause-read c =
    let held = c.in_ok-definitions.ensures ∙ ap (λ ds. Ok (ds, c.in_ok-definitions.rest.now))
    (sym c.deref.ensures.value) in
    let good = definitions_good c.args.template.now c.args.bytes.now c.in_ok-id.id c.in_ok-id.rest.now
    c.deref.result.now c.in_ok-definitions.rest.now
    (λ i. omega (arith, c.type_inv.bytes i)) c.in_ok-id.ensures.read held in
    object_read c.args.template.now c.define.new.template c.args.bytes.now c.in_ok-id.id c.in_ok-id.rest.now
    c.deref.result.now c.in_ok-definitions.rest.now c.in_ok-id.ensures.read held
    (object_behind c.args.template.now c.object_id_at.new.template c.define.new.template c.in_ok-id.id
    c.deref.result.now c.requires c.in_ok-id.ensures.above good c.in_ok-id.ensures.made c.in_ok-define.ensures.made)

pub returns-clause-made : goal.returns-clause-made
returns-clause-made c =
    let held = c.in_ok-definitions.ensures ∙ ap (λ ds. Ok (ds, c.in_ok-definitions.rest.now))
    (sym c.deref.ensures.value) in
    let good = definitions_good c.args.template.now c.args.bytes.now c.in_ok-id.id c.in_ok-id.rest.now
    c.deref.result.now c.in_ok-definitions.rest.now
    (λ i. omega (arith, c.type_inv.bytes i)) c.in_ok-id.ensures.read held in
    object_kept c.args.template.now c.define.new.template c.in_ok-id.id c.deref.result.now
    (object_behind c.args.template.now c.object_id_at.new.template c.define.new.template c.in_ok-id.id
    c.deref.result.now c.requires c.in_ok-id.ensures.above good c.in_ok-id.ensures.made c.in_ok-define.ensures.made)
