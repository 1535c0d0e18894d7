use Rattle.std.proofs.Common.{◌≡◌, length, sym, ap, ◌∙◌, arith}
use Rattle.std.specs.FinMap as map
use Rattle.std.proofs.lemmas.List.{length-map}
use Rattle.instance_store.specs.Stored.{value_count, instance_path, without_instance}
use Rattle.instance_store.specs.Tree.{tree, stored_from}
use Rattle.instance_store.proofs.StoreLaws.{tree_none, tree-remove, remove-stored, listed-instance, count-without}
use Rattle.instance_store.proofs.StoreLaws.{no_instance}
use Rattle.instance_store.proofs.objects.remove_instance.Goals as goal

pub len-count-requires : goal.len-count-requires
len-count-requires c =
    let m = c.in-Some.instance.now in
    let all =
    ap length (listed-instance c.args.objects.now c.args.at m (sym c.in-Some.ensures))
    ∙ length-map (map.entries m) _ ∙ sym (map.len-entries m) in
    omega (arith, all, count-without (stored_from c.args.objects.now) (instance_path c.args.at), c.requires.fits)

pub unreachable-requires : goal.unreachable-requires
unreachable-requires c = no_instance c.args.objects.now c.args.at c.requires.present (sym c.in-None.ensures)

pub unreachable-requires-in-None-get_mut : goal.unreachable-requires-in-None-get_mut
unreachable-requires-in-None-get_mut c =
    no_instance c.args.objects.now c.args.at c.requires.present
    (tree_none c.args.objects.now c.args.at.object c.args.at.instance (sym c.in-None-get_mut.ensures.value))

left : (c : goal.After-objects-in-Some-get_mut-1)
    → stored_from (map.insert c.args.objects.now c.args.at.object c.remove.new.self)
    ≡ without_instance (stored_from c.args.objects.now) c.args.at
left c =
    let o = c.args.objects.now in
    let at = c.args.at in
    remove-stored o (map.insert o at.object c.remove.new.self) at
    (ap (λ x. tree (map.insert o at.object x)) c.remove.ensures
    ∙ tree-remove o at.object at.instance c.in-Some-get_mut.object.now (sym c.in-Some-get_mut.ensures.value))

pub returns-clause-values : goal.returns-clause-values
returns-clause-values c = left c

pub returns-clause-count : goal.returns-clause-count
returns-clause-count c =
    let m = c.in-Some.instance.now in
    let all =
    ap length (listed-instance c.args.objects.now c.args.at m (sym c.in-Some.ensures))
    ∙ length-map (map.entries m) _ ∙ sym (map.len-entries m) in
    let rest = ap value_count (left c) in
    omega (
      arith,
      all,
      rest,
      count-without (stored_from c.args.objects.now)
          (instance_path c.args.at),
      c.len-count.ensures,
    )
