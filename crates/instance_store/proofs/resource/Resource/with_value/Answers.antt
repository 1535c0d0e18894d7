use Rattle.std.proofs.Common.{ap, ◌∙◌}
use Rattle.std.specs.FinMap as fin_map
use Rattle.instance_store.proofs.resource.Resource.with_value.Goals as goal

pub returns : goal.returns
returns c = c.in_ok-put.ensures.ok ∙ ap (λ m. fin_map.insert m c.args.part c.args.value) c.new-resource.ensures
