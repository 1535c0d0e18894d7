use Rattle.std.proofs.Common.{◌≡◌, eqb, length, Some, sym, ap, ◌∙◌, arith}
use Rattle.std.specs.List.{filter}
use Rattle.std.specs.FinMap as map
use Rattle.std.proofs.lemmas.List.{length-map}
use Rattle.instance_store.specs.Stored.{value_count, values_in, instance_of, resource_path, without_values}
use Rattle.instance_store.specs.Tree.{tree, stored_from}
use Rattle.instance_store.proofs.StoreLaws.{tree_some, tree_none, tree-insert, clear-stored}
use Rattle.instance_store.proofs.StoreLaws.{listed-resource, count-without}
use Rattle.instance_store.proofs.StoreLaws.{no_instance}
use Rattle.instance_store.proofs.objects.clear_values.Goals as goal
use Rattle.instance_store.proofs.objects.clear_values.Goals.{In-Some-get_mut}

-- the instance is there, and the resource has as many values as are listed of it
found : (c : In-Some-get_mut)
    → map.get (tree c.args.objects.now) (instance_of c.args.path) ≡ Some c.in-Some-get_mut.instance.now
found c =
    tree_some c.args.objects.now c.args.path.object c.args.path.instance c.in-Some.object.now
    (sym c.in-Some.ensures.value)
    ∙ sym c.in-Some-get_mut.ensures.value

counted : (c : In-Some-get_mut)
    → length (values_in (stored_from c.args.objects.now) (resource_path c.args.path))
    ≡ length (filter (λ e. eqb e.0.0 c.args.path.resource) (map.entries c.in-Some-get_mut.instance.now))
counted c =
    ap length (listed-resource c.args.objects.now (instance_of c.args.path) c.args.path.resource
    c.in-Some-get_mut.instance.now (found c))
    ∙ length-map (filter (λ e. eqb e.0.0 c.args.path.resource) (map.entries c.in-Some-get_mut.instance.now)) _

pub clear-requires : goal.clear-requires
clear-requires c =
    omega (
      arith,
      counted c,
      count-without (stored_from c.args.objects.now)
          (resource_path c.args.path),
      c.requires.fits,
    )

pub unreachable-requires : goal.unreachable-requires
unreachable-requires c =
    no_instance c.args.objects.now (instance_of c.args.path) c.requires.present
    (tree_some c.args.objects.now c.args.path.object c.args.path.instance c.in-Some.object.now
    (sym c.in-Some.ensures.value)
    ∙ sym c.in-None-get_mut.ensures.value)

pub unreachable-requires-in-None : goal.unreachable-requires-in-None
unreachable-requires-in-None c =
    no_instance c.args.objects.now (instance_of c.args.path) c.requires.present
    (tree_none c.args.objects.now c.args.path.object c.args.path.instance (sym c.in-None.ensures.value))

left : (c : goal.After-objects-in-Some-get_mut-1)
    → stored_from (map.insert c.args.objects.now c.args.path.object
    (map.insert c.in-Some.object.now c.args.path.instance
    c.clear.new.self))
    ≡ without_values (stored_from c.args.objects.now) (resource_path c.args.path)
left c =
    let o = c.args.objects.now in
    let object = c.in-Some.object.now in
    let path = c.args.path in
    clear-stored o (map.insert o path.object (map.insert object path.instance c.clear.new.self)) path
    c.in-Some-get_mut.instance.now
    (tree_some o path.object path.instance object (sym c.in-Some.ensures.value) ∙ sym c.in-Some-get_mut.ensures.value)
    (tree-insert o path.object path.instance object c.clear.new.self (sym c.in-Some.ensures.value)
    ∙ ap (map.insert (tree o) (instance_of path)) c.clear.ensures.values)

pub returns-clause-values : goal.returns-clause-values
returns-clause-values c = left c

pub returns-clause-count : goal.returns-clause-count
returns-clause-count c =
    let o = c.args.objects.now in
    let path = c.args.path in
    let some =
    tree_some o path.object path.instance c.in-Some.object.now (sym c.in-Some.ensures.value)
    ∙ sym c.in-Some-get_mut.ensures.value in
    let all =
    ap length (listed-resource o (instance_of path) path.resource c.in-Some-get_mut.instance.now some)
    ∙ length-map (filter (λ e. eqb e.0.0 path.resource) (map.entries c.in-Some-get_mut.instance.now)) _ in
    let rest = ap value_count (left c) in
    omega (arith, all, rest, count-without (stored_from o) (resource_path path), c.clear.ensures.count)
