use Rattle.std.proofs.Common.{◌++◌, eqb, map, sym, ap, ◌∙◌, append-nil}
use Rattle.std.specs.List.{filter}
use Rattle.std.specs.FinMap as fin_map
use Rattle.instance_store.specs.Listing.{shown_pairs}
use Rattle.instance_store.specs.Nested.{block}
use Rattle.instance_store.specs.Tree.{path_below, path_in}
use Rattle.instance_store.proofs.Answers.{ok_then}
use Rattle.instance_store.proofs.TreeLaws.{resource_some, resource_none, paths_of}
use Rattle.instance_store.proofs.instance.Instance.push_resource.Goals as goal

pub returns-in-Some : goal.returns-in-Some
returns-in-Some c =
    let found = shown_pairs c.args.found.now.items in
    ok_then c.push_values.result _ _ c.push_values.ensures (λ e.
    e
    ∙ ap (λ p. found ++ map (λ f. (path_in p f.0, f.1)) (fin_map.entries c.in-Some.held.now)) c.resource_path.ensures
    ∙ ap (λ t. found ++ t) (sym (paths_of c.args.place c.args.resource (fin_map.entries c.in-Some.held.now)))
    ∙ ap (λ t. found ++ block path_below c.args.place t)
    (sym (resource_some c.self.inside.resources c.args.resource c.in-Some.held.now (sym c.in-Some.ensures)))
    ∙ ap (λ m. found ++ block path_below c.args.place (filter (λ e. eqb e.0.0 c.args.resource) (fin_map.entries m)))
    c.self.view_is)

pub returns-in-None : goal.returns-in-None
returns-in-None c =
    let found = shown_pairs c.args.found.now.items in
    sym (append-nil found)
    ∙ ap (λ t. found ++ block path_below c.args.place t)
    (sym (resource_none c.self.inside.resources c.args.resource (sym c.in-None.ensures)))
    ∙ ap (λ m. found ++ block path_below c.args.place (filter (λ e. eqb e.0.0 c.args.resource) (fin_map.entries m)))
    c.self.view_is
