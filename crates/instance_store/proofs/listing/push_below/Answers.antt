use Rattle.std.proofs.Common.{◌++◌, sym, ap, ◌∙◌, append-nil}
use Rattle.instance_store.specs.Listing.{shown_pairs}
use Rattle.instance_store.specs.Stored.{values_in}
use Rattle.instance_store.specs.Tree.{stored_from, place}
use Rattle.instance_store.proofs.Answers.{ok_then}
use Rattle.instance_store.proofs.StoreLaws.{listed-object, listed-no_object, listed-instance, listed-no_instance}
use Rattle.instance_store.proofs.StoreLaws.{listed-resource, listed-no_resource, listed-part, listed-no_part}
use Rattle.instance_store.proofs.listing.push_below.Goals as goal

pub returns-in-Some : goal.returns-in-Some
returns-in-Some c =
    let found = shown_pairs c.args.found.now.items in
    let o = c.args.objects.now in
    ok_then c.push_object.result _ _ c.push_object.ensures (λ e.
    e ∙ ap (λ t. found ++ t) (sym (listed-object o c.in-Object.object c.in-Some.held.now (sym c.in-Some.ensures)))
    ∙ ap (λ p. found ++ values_in (stored_from o) p) (sym c.in-Object.is))

pub returns-in-None : goal.returns-in-None
returns-in-None c =
    let found = shown_pairs c.args.found.now.items in
    let o = c.args.objects.now in
    sym (append-nil found)
    ∙ ap (λ t. found ++ t) (sym (listed-no_object o c.in-Object.object (sym c.in-None.ensures)))
    ∙ ap (λ p. found ++ values_in (stored_from o) p) (sym c.in-Object.is)

pub returns-in-Some-find : goal.returns-in-Some-find
returns-in-Some-find c =
    let found = shown_pairs c.args.found.now.items in
    let o = c.args.objects.now in
    ok_then c.push_values.result _ _ c.push_values.ensures (λ e.
    e ∙ ap (λ t. found ++ t) (sym (listed-instance o (place c.in-Instance.object c.in-Instance.instance)
    c.in-Some-find.held.now (sym c.in-Some-find.ensures)))
    ∙ ap (λ p. found ++ values_in (stored_from o) p) (sym c.in-Instance.is))

pub returns-in-None-find : goal.returns-in-None-find
returns-in-None-find c =
    let found = shown_pairs c.args.found.now.items in
    let o = c.args.objects.now in
    sym (append-nil found)
    ∙ ap (λ t. found ++ t) (sym (listed-no_instance o (place c.in-Instance.object c.in-Instance.instance)
    (sym c.in-None-find.ensures)))
    ∙ ap (λ p. found ++ values_in (stored_from o) p) (sym c.in-Instance.is)

pub returns-in-Some-find-2 : goal.returns-in-Some-find-2
returns-in-Some-find-2 c =
    let found = shown_pairs c.args.found.now.items in
    let o = c.args.objects.now in
    ok_then c.push_resource.result _ _ c.push_resource.ensures (λ e.
    e ∙ ap (λ t. found ++ t) (sym (listed-resource o (place c.in-Resource.object c.in-Resource.instance)
    c.in-Resource.resource c.in-Some-find-2.held.now (sym c.in-Some-find-2.ensures)))
    ∙ ap (λ p. found ++ values_in (stored_from o) p) (sym c.in-Resource.is))

pub returns-in-None-find-2 : goal.returns-in-None-find-2
returns-in-None-find-2 c =
    let found = shown_pairs c.args.found.now.items in
    let o = c.args.objects.now in
    sym (append-nil found)
    ∙ ap (λ t. found ++ t) (sym (listed-no_resource o (place c.in-Resource.object c.in-Resource.instance)
    c.in-Resource.resource (sym c.in-None-find-2.ensures)))
    ∙ ap (λ p. found ++ values_in (stored_from o) p) (sym c.in-Resource.is)

pub returns-in-Some-find-3 : goal.returns-in-Some-find-3
returns-in-Some-find-3 c =
    let found = shown_pairs c.args.found.now.items in
    let o = c.args.objects.now in
    ok_then c.push_part.result _ _ c.push_part.ensures (λ e.
    e ∙ ap (λ t. found ++ t) (sym (listed-part o (place c.in-Part.object c.in-Part.instance) c.in-Part.resource
    c.in-Part.part c.in-Some-find-3.held.now (sym c.in-Some-find-3.ensures)))
    ∙ ap (λ p. found ++ values_in (stored_from o) p) (sym c.in-Part.is))

pub returns-in-None-find-3 : goal.returns-in-None-find-3
returns-in-None-find-3 c =
    let found = shown_pairs c.args.found.now.items in
    let o = c.args.objects.now in
    sym (append-nil found)
    ∙ ap (λ t. found ++ t) (sym (listed-no_part o (place c.in-Part.object c.in-Part.instance) c.in-Part.resource
    c.in-Part.part (sym c.in-None-find-3.ensures)))
    ∙ ap (λ p. found ++ values_in (stored_from o) p) (sym c.in-Part.is)
