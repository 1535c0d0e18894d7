use Rattle.std.proofs.Common.{eqb, map, sym, ap, ◌∙◌}
use Rattle.std.specs.List.{dedup}
use Rattle.std.specs.FinMap as fin_map
use Rattle.instance_store.proofs.TreeLaws.{numbers-instance}
use Rattle.instance_store.proofs.instance.Instance.resources.Goals as goal

pub returns : goal.returns
returns c =
    c.numbers.ensures
    ∙ sym (numbers-instance c.self.inside.resources c.self.invariant)
    ∙ ap (λ m. dedup eqb (map (λ e. e.0.0) (fin_map.entries m))) c.self.view_is
