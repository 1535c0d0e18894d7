use Rattle.std.proofs.Common.{◌≡◌, true, false, Some, sym, ap, ◌∙◌}
use Rattle.std.proofs.lemmas.Result.{IfOk-weaker}
use Rattle.std.specs.Option.{option_copied}
use Rattle.lwm2m_values.specs.Tree.{tree_of, trees_of}
use Rattle.object_defs.specs.Catalog.{resource_in}
use Rattle.lwm2m_payloads.specs.Given.{given_by, has_number, may_be_given, number_in}
use Rattle.lwm2m_payloads.proofs.Assigned.{assigned, once}
use Rattle.lwm2m_payloads.proofs.instance.record_in.Goals as goal

pub returns : goal.returns
returns c =
    let node = tree_of c.args.node.now in
    let others = trees_of c.args.others.now in
    let d = c.in-Some.definition.now in
    let is : resource_in c.args.resources.now (number_in node) ≡ Some d =
    ap (resource_in c.args.resources.now) (sym c.number_in-resource.ensures) ∙ sym c.definition_in.ensures
    ∙ ap option_copied c.in-Some.is in
    let may : may_be_given c.args.purpose d.ops ≡ true = sym c.may_be_given.ensures ∙ c.if-not-may_be_given.false in
    let some : has_number (number_in node) others ≡ false =
    ap (λ n. has_number n others) (sym c.number_in-resource.ensures) ∙ sym c.has_number.ensures
    ∙ c.if-has_number.false in
    IfOk-weaker c.given_by.result _ _
    (λ g told. assigned c.args.purpose c.args.resources.now c.args.place node others d false g is may some
    (told ∙ once c.args.place (number_in node) (given_by d node)))
    c.given_by.ensures
