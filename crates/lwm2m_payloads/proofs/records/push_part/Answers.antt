use Rattle.std.proofs.Common.{ap, ◌∙◌}
use Rattle.lwm2m_values.specs.Tree.{multi, tree_of, trees_of}
use Rattle.lwm2m_payloads.specs.Building.{with_last}
use Rattle.lwm2m_payloads.proofs.Growth.{trees_of-push}
use Rattle.lwm2m_payloads.proofs.records.push_part.Goals as goal

pub returns : goal.returns
returns c =
    ap trees_of c.in_ok-push-2.ensures.items
    ∙ trees_of-push c.take_parts.new.nodes.items c.multi_node.result
    ∙ ap (with_last (trees_of c.take_parts.new.nodes.items))
    (c.multi_node.ensures ∙ ap (λ t. multi c.args.resource (trees_of t)) c.in_ok-push.ensures.items
    ∙ ap (multi c.args.resource) (trees_of-push c.in_ok-parts.parts.items c.args.node))
    ∙ c.in_ok-parts.ensures (tree_of c.args.node)
