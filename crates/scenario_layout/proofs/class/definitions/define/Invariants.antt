use Rattle.std.proofs.Common.{◌≡◌, Some, take}
use Rattle.object_defs.specs.Catalog.{object_of}
use Rattle.device_template.specs.Template.{with_catalog}
use Rattle.scenario_layout.specs.Growing.{with_definitions}
use Rattle.scenario_layout.specs.Class.{object_of_definitions}
use Rattle.scenario_layout.proofs.class.definitions.define.Given as goal

-- the object has the definitions before the index
abbrev pub invariant-loop-definition : goal.invariant-loop-definition
invariant-loop-definition l = record {
  made : l.template ≡ with_catalog l.fn.template
      (with_definitions l.fn.template.catalog l.id (take l.definition-index l.definitions));
  found : object_of l.template.catalog l.id ≡ Some (object_of_definitions l.id (take l.definition-index l.definitions));
}
