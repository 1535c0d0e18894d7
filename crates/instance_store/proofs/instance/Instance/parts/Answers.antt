use Rattle.std.proofs.Common.{eqb, sym, ap, ◌∙◌}
use Rattle.std.specs.List.{filter, filter_map}
use Rattle.std.specs.FinMap as fin_map
use Rattle.instance_store.proofs.TreeLaws.{parts_some, resource_none}
use Rattle.instance_store.proofs.instance.Instance.parts.Goals as goal

pub returns-in-Some : goal.returns-in-Some
returns-in-Some c =
    c.parts.ensures
    ∙ sym (parts_some c.self.inside.resources c.args.resource c.in-Some.held.now (sym c.in-Some.ensures))
    ∙ ap (λ m. filter_map (λ e. e.0.1) (filter (λ e. eqb e.0.0 c.args.resource) (fin_map.entries m))) c.self.view_is

pub returns-in-None : goal.returns-in-None
returns-in-None c =
    sym (ap (filter_map (λ e. e.0.1)) (resource_none c.self.inside.resources c.args.resource (sym c.in-None.ensures)))
    ∙ ap (λ m. filter_map (λ e. e.0.1) (filter (λ e. eqb e.0.0 c.args.resource) (fin_map.entries m))) c.self.view_is
