use Rattle.std.proofs.Common.{◌≡◌, ◌+◌, ◌-◌, length, take, drop, Ok, sym, ap, ◌∙◌, arith}
use Rattle.lwm2m_values.specs.Tree.{tree_of, trees_of}
use Rattle.lwm2m_payloads.specs.declared.given.Assignment.{Assignment}
use Rattle.lwm2m_payloads.specs.Building.{assigned_to}
use Rattle.lwm2m_payloads.specs.Given.{assignments, assignments_from, number_in, record_in}
use Rattle.lwm2m_payloads.proofs.EachOnce.{record_new}
use Rattle.lwm2m_payloads.proofs.Walk.{first_is, goes_on, is_apart, no_later, one_less, stays_apart}
use Rattle.lwm2m_payloads.proofs.instance.assignments.Goals as goal

pub push-requires : goal.push-requires
push-requires c =
    let rest = c.loop-rest.rest.now in
    let node = tree_of c.node-item.result in
    let others = trees_of (take (length rest - 1) (drop 1 rest)) in
    let a : Assignment = record { resource = number_in node; given = c.in-Ok.found } in
    let new = record_new c.args.purpose c.args.resources.now (c.loop-rest.place + 1) node others a
    (sym c.in_ok-fault.ensures ∙ ap (assigned_to (number_in node)) c.in-Ok.is) in
    let apart = sym (ap (λ t. no_later t c.loop-rest.given)
    (first_is rest c.node-item.result c.in-len1-up.len_at_least c.node-item.is)) ∙ c.loop-rest.invariant.apart in
    is_apart c.loop-rest.given node others c.number_in-resource.result apart c.number_in-resource.ensures

pub loop-rest-preserved : goal.loop-rest-preserved
loop-rest-preserved c =
    let rest = c.loop-rest.rest.now in
    let node = tree_of c.node-item.result in
    let others = trees_of (take (length rest - 1) (drop 1 rest)) in
    let first = first_is rest c.node-item.result c.in-len1-up.len_at_least c.node-item.is in
    let n = c.number_in-resource.result in
    let a : Assignment = record { resource = n; given = c.in-Ok.found } in
    let told : record_in c.args.purpose c.args.resources.now (c.loop-rest.place + 1) node others ≡ Ok a =
    sym c.in_ok-fault.ensures ∙ ap (λ k. assigned_to k c.in_ok-fault.field-0) (sym c.number_in-resource.ensures)
    ∙ ap (assigned_to n) c.in-Ok.is in
    let new = record_new c.args.purpose c.args.resources.now (c.loop-rest.place + 1) node others a told in
    let apart = sym (ap (λ t. no_later t c.loop-rest.given) first) ∙ c.loop-rest.invariant.apart in
    let one = one_less rest c.in-len1-up.len_at_least in
    record {
      told = goes_on c.loop-rest.given c.push.new.self a
          (record_in c.args.purpose c.args.resources.now (c.loop-rest.place + 1) node others)
          (assignments_from (c.loop-rest.place + 1) c.args.purpose c.args.resources.now (trees_of rest))
          (assignments_from (c.loop-rest.place + 1 + 1) c.args.purpose c.args.resources.now others)
          (assignments c.args.purpose c.args.resources.now (trees_of c.args.nodes.now)) c.loop-rest.invariant.told
          (ap (assignments_from (c.loop-rest.place + 1) c.args.purpose c.args.resources.now) first) (sym told)
          c.in_ok-push-in-Ok.ensures;
      apart = ap (no_later others) c.in_ok-push-in-Ok.ensures
          ∙ stays_apart c.loop-rest.given a node others apart new.1;
      count = omega (arith, one, c.loop-rest.invariant.count);
    }
