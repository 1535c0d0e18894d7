use Rattle.std.proofs.Common.{◌≡◌, ◌++◌, sym, ap, subst, ◌∙◌}
use Rattle.lwm2m_values.specs.declared.level.Around.TheVariants.{Top}
use Rattle.lwm2m_values.specs.Tree.{trees_of}
use Rattle.lwm2m_values.specs.Tlv.{IsTlv, shortest_tlv}
use Rattle.lwm2m_values.proofs.Shortest.{nodes_written}
use Rattle.lwm2m_values.proofs.tlv_writer.write_tlv.Goals as goal

pub returns-clause-read_again : goal.returns-clause-read_again
returns-clause-read_again c =
    let trees = trees_of c.args.nodes.now in
    let written : c.from_vec.result ≡ shortest_tlv trees =
    c.from_vec.ensures ∙ c.in_ok-put_nodes.ensures ∙ ap (λ x. x ++ shortest_tlv trees) c.new-out.ensures.items in
    subst (IsTlv trees) (sym written) (nodes_written trees Top c.requires.0)
