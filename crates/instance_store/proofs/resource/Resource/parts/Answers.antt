use Rattle.std.proofs.Common.{sym, ap, ◌∙◌}
use Rattle.std.specs.List.{filter_map}
use Rattle.std.specs.FinMap as fin_map
use Rattle.instance_store.proofs.TreeLaws.{parts-resource}
use Rattle.instance_store.proofs.resource.Resource.parts.Goals as goal

pub returns : goal.returns
returns c =
    c.numbers.ensures
    ∙ sym (parts-resource c.self.inside.single c.self.inside.parts)
    ∙ ap (λ m. filter_map (λ e. e.0) (fin_map.entries m)) c.self.view_is
