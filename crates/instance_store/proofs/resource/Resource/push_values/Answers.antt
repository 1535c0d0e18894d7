use Rattle.std.proofs.Common.{◌++◌, [], ◌∷◌, sym, ap, ◌∙◌, append_assoc}
use Rattle.std.specs.FinMap as fin_map
use Rattle.instance_store.specs.Listing.{shown_pairs}
use Rattle.instance_store.specs.Tree.{single_entries, part_entries}
use Rattle.instance_store.proofs.Answers.{ok_then}
use Rattle.instance_store.proofs.TreeLaws.{in_resource, entries-resource, shown_push}
use Rattle.instance_store.proofs.resource.Resource.push_values.Goals as goal

pub returns-in_ok-push-in-Some : goal.returns-in_ok-push-in-Some
returns-in_ok-push-in-Some c =
    let found = c.args.found.now.items in
    let es = part_entries (fin_map.entries c.self.inside.parts) in
    let parts = in_resource c.args.path es in
    ok_then c.push_parts.result _ _ c.push_parts.ensures (λ e.
    e
    ∙ ap (λ ps. shown_pairs ps ++ parts) c.in_ok-push-in-Some.ensures.items
    ∙ ap (λ t. t ++ parts) (shown_push found _)
    ∙ append_assoc (shown_pairs found) (_ ∷ []) parts
    ∙ ap (λ q. shown_pairs found ++ (q, c.in-Some.value) ∷ parts) c.single.ensures
    ∙ ap (λ t. shown_pairs found ++ in_resource c.args.path t)
    (sym (entries-resource c.self.inside.single c.self.inside.parts ∙ ap (λ s. single_entries s ++ es) c.in-Some.is))
    ∙ ap (λ m. shown_pairs found ++ in_resource c.args.path (fin_map.entries m)) c.self.view_is)

pub returns-in-None : goal.returns-in-None
returns-in-None c =
    let found = c.args.found.now.items in
    let es = part_entries (fin_map.entries c.self.inside.parts) in
    ok_then c.push_parts-in-None.result _ _ c.push_parts-in-None.ensures (λ e.
    e
    ∙ ap (λ t. shown_pairs found ++ in_resource c.args.path t)
    (sym (entries-resource c.self.inside.single c.self.inside.parts ∙ ap (λ s. single_entries s ++ es) c.in-None.is))
    ∙ ap (λ m. shown_pairs found ++ in_resource c.args.path (fin_map.entries m)) c.self.view_is)
