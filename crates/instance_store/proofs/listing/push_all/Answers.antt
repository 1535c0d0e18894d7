use Rattle.std.proofs.Common.{◌+◌, ◌++◌, drop, sym, ap, ◌∙◌, append-nil, append_assoc}
use Rattle.std.specs.FinMap as fin_map
use Rattle.instance_store.specs.Listing.{shown_pairs}
use Rattle.instance_store.specs.Nested.{flat_entries}
use Rattle.instance_store.specs.Tree.{place, path_below}
use Rattle.instance_store.proofs.StoreLaws.{all-values, object_next}
use Rattle.instance_store.proofs.TreeLaws.{all_done}
use Rattle.instance_store.proofs.listing.push_all.Goals as goal

pub loop-index-init : goal.loop-index-init
loop-index-init c = ap (λ t. shown_pairs c.args.found.now.items ++ t) (sym (all-values c.args.objects.now))

pub loop-index-preserved : goal.loop-index-preserved
loop-index-preserved c =
    let es = fin_map.entries c.args.objects.now in
    let rest = flat_entries path_below (flat_entries place (drop (c.loop-index.index + 1) es)) in
    let found = shown_pairs c.loop-index.found.items in
    ap (λ t. t ++ rest) c.in_ok-push_object.ensures
    ∙ append_assoc found _ rest
    ∙ ap (λ t. found ++ t) (sym (object_next es c.loop-index.index _ c.entry-number.ensures))
    ∙ c.loop-index.invariant

pub returns : goal.returns
returns c =
    let found = shown_pairs c.loop-index.found.items in
    sym (append-nil found)
    ∙ ap (λ t. found ++ flat_entries path_below (flat_entries place t))
    (sym (all_done c.args.objects.now c.loop-index.index c.len-index-end.result c.len-index-end.ensures
    c.loop-index-test.false))
    ∙ c.loop-index.invariant
