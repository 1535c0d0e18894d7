use Rattle.std.proofs.Common.{◌≡◌, sym, ap, ◌∙◌, None}
use Rattle.object_defs.specs.Catalog.{definition_of}
use Rattle.object_defs.specs.Order.{is_in_order}
use Rattle.object_defs.specs.Vendor.{resource_fault, resource_fault_in}
use Rattle.object_defs.proofs.Inserting.{stands, resource_put}
use Rattle.object_defs.proofs.LookUps.{definition_of-with_resource_same, definition_of-with_resource_other}
use Rattle.object_defs.proofs.Order.{in_order-with_resource}
use Rattle.object_defs.proofs.catalog.Catalog.add_resource.Goals as goal

pub returns-clause-added : goal.returns-clause-added
returns-clause-added c =
    resource_put c.self.inside.objects.items c.args.self.now c.args.object c.in-Some.place c.args.definition
    c.index_mut-found.result.now c.insert.new.self
    c.self.view_is c.in-Some.ensures.first
    (stands c.self.inside.objects.items c.args.self.now c.in-Some.place c.index_mut-found.result.now c.self.view_is
    c.in-Some.ensures.within c.index_mut-found.ensures.value)
    c.in_ok-insert.ensures.ok

none : (c : goal.In_ok-insert) → resource_fault c.args.self.now c.args.object c.args.definition ≡ None
none c =
    let here = stands c.self.inside.objects.items c.args.self.now c.in-Some.place c.index_mut-found.result.now
    c.self.view_is c.in-Some.ensures.within c.index_mut-found.ensures.value in
    ap (resource_fault_in c.args.definition) (sym c.in-Some.ensures.object ∙ here)
    ∙ sym c.in_default-resource_fault.ensures

pub returns-clause-refuses : goal.returns-clause-refuses
returns-clause-refuses c = λ f h. let k = none c in cc

pub invariant_of-self-2 : goal.invariant_of-self-2
invariant_of-self-2 c =
    ap is_in_order (returns-clause-added c)
    ∙ in_order-with_resource c.args.self.now c.args.object c.args.definition (none c)
    (ap is_in_order (sym c.self.view_is) ∙ c.self.invariant)

pub returns-clause-found : goal.returns-clause-found
returns-clause-found c =
    ap (λ os. definition_of os c.args.object c.args.definition.id) (returns-clause-added c)
    ∙ definition_of-with_resource_same c.args.self.now c.args.object c.args.definition (none c)

pub returns-clause-others : goal.returns-clause-others
returns-clause-others c = λ q r h.
    ap (λ os. definition_of os q r) (returns-clause-added c)
    ∙ definition_of-with_resource_other c.args.self.now c.args.object c.args.definition q r h
