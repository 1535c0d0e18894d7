use Rattle.std.proofs.Common.{◌≡◌, sym, ap, subst, ◌∙◌}
use Rattle.std.specs.Result.{OnOk}
use Rattle.lwm2m_values.specs.Tree.{single, part, tree_of, trees_of}
use Rattle.lwm2m_payloads.specs.Building.{with_last, part_behind}
use Rattle.lwm2m_payloads.specs.Nodes.{nodes_of}
use Rattle.lwm2m_payloads.proofs.Growth.{trees_of-push, value_behind, nodes_of-push}
use Rattle.lwm2m_payloads.proofs.records.push_value.Goals as goal

pub returns-in_ok-push-in-None : goal.returns-in_ok-push-in-None
returns-in_ok-push-in-None c = λ es h.
    ap trees_of c.in_ok-push-in-None.ensures.items
    ∙ trees_of-push c.args.nodes.now.items c.single_node.result
    ∙ ap (λ t. with_last t (tree_of c.single_node.result)) h
    ∙ ap (with_last (nodes_of es)) (c.single_node.ensures
    ∙ ap (single c.args.path.resource) c.in_ok-bytes.ensures.shortest)
    ∙ ap (λ n. value_behind c.args.path.resource n c.args.value.now (nodes_of es)) (sym c.in-None.is)
    ∙ sym (nodes_of-push es c.args.path c.args.value.now)

pub returns-in-Some : goal.returns-in-Some
returns-in-Some c = λ es h.
    let same =
    ap (part_behind c.args.path.resource (tree_of c.part_node.result)) h
    ∙ ap (λ t. part_behind c.args.path.resource t (nodes_of es))
    (c.part_node.ensures ∙ ap (part c.in-Some.part) c.in_ok-bytes.ensures.shortest)
    ∙ ap (λ n. value_behind c.args.path.resource n c.args.value.now (nodes_of es)) (sym c.in-Some.is)
    ∙ sym (nodes_of-push es c.args.path c.args.value.now) in
    subst (λ t. OnOk c.push_part.result (trees_of c.push_part.new.nodes.items ≡ t)) same c.push_part.ensures
