use Rattle.std.proofs.Common.{take, get_or, sym, ap, ◌∙◌, arith}
use Rattle.std.proofs.lemmas.List.{at_drop_more, take_more}
use Rattle.lwm2m_values.specs.Tree.{tree_of, trees_of}
use Rattle.lwm2m_payloads.specs.Building.{with_last}
use Rattle.lwm2m_payloads.specs.Least.{least_of_instances}
use Rattle.lwm2m_payloads.specs.Nodes.{object_nodes}
use Rattle.lwm2m_payloads.proofs.Growth.{trees_of-push}
use Rattle.lwm2m_payloads.proofs.Nesting.{object_nodes-push}
use Rattle.lwm2m_payloads.proofs.records.instance_records.Goals as goal

pub returns-in_default-clause-fits : goal.returns-in_default-clause-fits
returns-in_default-clause-fits c =
    let least = least_of_instances c.args.store.now c.args.resources.now c.args.object in
    omega (
      arith,
      at_drop_more least c.args.instances.now c.loop-instance.instance-index 0 c.loop-instance-test.true,
      rw c.in_default.is at c.in_ok-node.ensures.fits,
      c.loop-instance.invariant.room,
    )

pub loop-instance-preserved : goal.loop-instance-preserved
loop-instance-preserved c =
    let i = c.loop-instance.instance-index in
    let shown = object_nodes c.args.store.now c.args.resources.now c.args.object in
    let least = least_of_instances c.args.store.now c.args.resources.now c.args.object in
    record {
      records = ap trees_of c.in_ok-push.ensures.items
          ∙ trees_of-push c.loop-instance.nodes.items c.in-Some.node
          ∙ ap (λ t. with_last t (tree_of c.in-Some.node)) c.loop-instance.invariant.records
          ∙ ap (with_last (shown (take i c.args.instances.now)))
          (rw c.in-Some.is at c.in_ok-node.ensures.records)
          ∙ sym (object_nodes-push c.args.store.now c.args.resources.now c.args.object (take i c.args.instances.now)
          (get_or c.args.instances.now i 0))
          ∙ ap shown (sym (take_more c.args.instances.now i 0 c.loop-instance-test.true));
      room = omega (
        arith,
        at_drop_more least c.args.instances.now i 0 c.loop-instance-test.true,
        rw c.in-Some.is at c.in_ok-node.ensures.fits,
        c.loop-instance.invariant.room,
      );
    }
