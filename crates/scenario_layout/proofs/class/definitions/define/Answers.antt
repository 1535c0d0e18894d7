use Rattle.std.proofs.Common.{ap, ◌∙◌}
use Rattle.std.proofs.lemmas.List.{get_or_default, take_all}
use Rattle.device_template.specs.Template.{with_catalog}
use Rattle.scenario_layout.specs.Growing.{with_definitions}
use Rattle.scenario_layout.proofs.Defined.{free_at, made_on, found_more}
use Rattle.scenario_layout.proofs.class.definitions.define.Goals as goal

pub add_definition-requires : goal.add_definition-requires
add_definition-requires c =
    free_at c.loop-definition.template c.args.id c.args.definitions.now c.loop-definition.definition-index _
    c.requires.vendor c.requires.good c.loop-definition-test.true
    (get_or_default c.args.definitions.now c.loop-definition.definition-index _ _ c.loop-definition-test.true)
    c.loop-definition.invariant.found

pub loop-definition-preserved : goal.loop-definition-preserved
loop-definition-preserved c = record {
  made = made_on c.args.template.now c.loop-definition.template c.add_definition.new.template c.args.id
      c.args.definitions.now c.loop-definition.definition-index _ c.loop-definition-test.true
      (get_or_default c.args.definitions.now c.loop-definition.definition-index _ _ c.loop-definition-test.true)
      c.loop-definition.invariant.made c.in_ok-add_definition.ensures.made;
  found = found_more c.loop-definition.template c.add_definition.new.template c.args.id c.args.definitions.now
      c.loop-definition.definition-index _ c.requires.good c.loop-definition-test.true
      (get_or_default c.args.definitions.now c.loop-definition.definition-index _ _ c.loop-definition-test.true)
      c.loop-definition.invariant.found c.in_ok-add_definition.ensures.made;
}

pub returns-clause-made : goal.returns-clause-made
returns-clause-made c =
    c.loop-definition.invariant.made
    ∙ ap (λ xs. with_catalog c.args.template.now (with_definitions c.args.template.now.catalog c.args.id xs))
    (take_all c.loop-definition.definition-index c.args.definitions.now c.loop-definition-test.false)
