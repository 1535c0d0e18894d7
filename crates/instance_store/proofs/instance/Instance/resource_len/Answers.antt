use Rattle.std.proofs.Common.{◌<◌, ◌^◌, eqb, length, subst, sym, ap, ◌∙◌}
use Rattle.std.specs.List.{filter}
use Rattle.std.specs.FinMap as fin_map
use Rattle.instance_store.proofs.TreeLaws.{length_some, resource_none}
use Rattle.instance_store.proofs.instance.Instance.resource_len.Goals as goal

pub len-requires : goal.len-requires
len-requires c =
    subst (λ n. n < 2 ^ 64) (ap (λ m. length (filter (λ e. eqb e.0.0 c.args.resource) (fin_map.entries m)))
    (sym c.self.view_is)
    ∙ length_some c.self.inside.resources c.args.resource c.in-Some.held.now (sym c.in-Some.ensures)) c.requires

pub returns-in-Some : goal.returns-in-Some
returns-in-Some c =
    c.len.ensures
    ∙ sym (length_some c.self.inside.resources c.args.resource c.in-Some.held.now (sym c.in-Some.ensures))
    ∙ ap (λ m. length (filter (λ e. eqb e.0.0 c.args.resource) (fin_map.entries m))) c.self.view_is

pub returns-in-None : goal.returns-in-None
returns-in-None c =
    sym (ap length (resource_none c.self.inside.resources c.args.resource (sym c.in-None.ensures)))
    ∙ ap (λ m. length (filter (λ e. eqb e.0.0 c.args.resource) (fin_map.entries m))) c.self.view_is
