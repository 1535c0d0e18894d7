use Rattle.std.proofs.Common.{◌+◌, ◌++◌, map, drop, sym, ap, ◌∙◌, append-nil, append_assoc}
use Rattle.std.specs.FinMap as fin_map
use Rattle.object_defs.specs.declared.path.InstancePath.{InstancePath}
use Rattle.instance_store.specs.Nested.{flat_entries}
use Rattle.instance_store.specs.Tree.{place, InstanceValues}
use Rattle.instance_store.proofs.StoreLaws.{all-places, places_next}
use Rattle.instance_store.proofs.TreeLaws.{all_done}
use Rattle.instance_store.proofs.listing.push_instances.Goals as goal

pub loop-index-init : goal.loop-index-init
loop-index-init c = ap (λ t. c.args.found.now.items ++ t) (sym (all-places c.args.objects.now))

pub loop-index-preserved : goal.loop-index-preserved
loop-index-preserved c =
    let es = fin_map.entries c.args.objects.now in
    let rest = map (λ (e : InstancePath × InstanceValues). e.0)
    (flat_entries place (drop (c.loop-index.index + 1) es)) in
    let found = c.loop-index.found.items in
    ap (λ t. t ++ rest) c.in_ok-push_places.ensures
    ∙ append_assoc found _ rest
    ∙ ap (λ ks. found ++ (map (place c.entry-number.result.0) ks ++ rest)) c.numbers.ensures
    ∙ ap (λ t. found ++ t) (sym (places_next es c.loop-index.index _ c.entry-number.ensures))
    ∙ c.loop-index.invariant

pub returns : goal.returns
returns c =
    let found = c.loop-index.found.items in
    sym (append-nil found)
    ∙ ap (λ t. found ++ map (λ (e : InstancePath × InstanceValues). e.0) (flat_entries place t))
    (sym (all_done c.args.objects.now c.loop-index.index c.len-index-end.result c.len-index-end.ensures
    c.loop-index-test.false))
    ∙ c.loop-index.invariant
