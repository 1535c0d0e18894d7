use Rattle.std.proofs.Common.{◌<◌, ◌≡◌, length, sym, ap, ◌∙◌, arith, Err}
use Rattle.std.proofs.lemmas.Bool.Decides.{nat_tests}
use Rattle.std.proofs.lemmas.Result.{err_from_is_err_and}
use Rattle.lwm2m_values.proofs.Nodes.{cut_here, nesting_here, within_here, front_grows}
use Rattle.lwm2m_values.proofs.EarlyFault.{early_is_fault, early_inside, early_first, early_ends}
use Rattle.lwm2m_values.proofs.OneTlv.{one_fault}
use Rattle.lwm2m_values.proofs.tlv.+reading.Goals as goal

pub nodes_of-returns-in_default-clause-fault : goal.nodes_of-returns-in_default-clause-fault
nodes_of-returns-in_default-clause-fault t c =
    let some : 0 < length c.loop-rest.rest.now = grind (arith, nat_tests) in
    λ _. cut_here _ _ _ _ c.loop-rest.invariant some c.in_default.ensures.cut

pub nodes_of-returns-then-not-may_stand-clause-fault :
    goal.nodes_of-returns-then-not-may_stand-clause-fault
nodes_of-returns-then-not-may_stand-clause-fault t c =
    λ _. let found =
    c.in-Some.ensures.found in nesting_here _ _ _ _ _ _ _ _ _ c.loop-rest.invariant found.1 found.2
    (sym c.may_stand.ensures ∙ c.if-not-may_stand.true)

pub nodes_of-returns-in_err-node-clause-fault : goal.nodes_of-returns-in_err-node-clause-fault
nodes_of-returns-in_err-node-clause-fault t c =
    let found = c.in-Some.ensures.found in
    let p = err_from_is_err_and c.from_residual.result c.from_residual.ensures.1 in
    rw (p.1, p.2) (λ other. within_here _ _ _ _ _ _ _ _ _ _ c.loop-rest.invariant found.1 found.2
    (sym c.may_stand.ensures ∙ c.if-not-may_stand.false) (c.in_err-node.ensures.fault other))

pub nodes_of-loop-rest-preserved : goal.nodes_of-loop-rest-preserved
nodes_of-loop-rest-preserved t c =
    let found = c.in-Some.ensures.found in
    rw c.in_ok-push.ensures.items (front_grows _ _ _ _ _ _ _ _ _ _ c.loop-rest.invariant found.1 found.2
    (sym c.may_stand.ensures ∙ c.if-not-may_stand.false) c.in_ok-node.ensures.found)

pub nodes_of-returns-in_default-clause-early : goal.nodes_of-returns-in_default-clause-early
nodes_of-returns-in_default-clause-early t c = λ f w.
    let some : 0 < length c.loop-rest.rest.now = grind (arith, nat_tests) in
    let here = cut_here _ _ _ _ c.loop-rest.invariant some c.in_default.ensures.cut in
    ap (λ e. Err e) (one_fault _ _ _ f here (early_is_fault _ _ f w))

pub nodes_of-returns-then-not-may_stand-clause-early : goal.nodes_of-returns-then-not-may_stand-clause-early
nodes_of-returns-then-not-may_stand-clause-early t c = λ f w.
    let found = c.in-Some.ensures.found in
    let here = nesting_here _ _ _ _ _ _ _ _ _ c.loop-rest.invariant found.1 found.2
    (sym c.may_stand.ensures ∙ c.if-not-may_stand.true) in
    ap (λ e. Err e) (one_fault _ _ _ f here (early_is_fault _ _ f w))

pub nodes_of-returns-in_err-node-clause-early : goal.nodes_of-returns-in_err-node-clause-early
nodes_of-returns-in_err-node-clause-early t c = λ f w.
    let found = c.in-Some.ensures.found in
    let first = early_first _ _ _ _ f c.loop-rest.invariant w in
    let inside = early_inside _ _ f _ _ _ _ _ w found.1 (sym first ∙ found.2)
    (sym c.may_stand.ensures ∙ c.if-not-may_stand.false) in
    let p = err_from_is_err_and c.from_residual.result c.from_residual.ensures.1 in
    let same = c.in_err-node.ensures.early inside.0 f inside.1 inside.2 in
    rw (p.1, p.2) (cc)

pub nodes_of-returns-in_err-push-clause-early : goal.nodes_of-returns-in_err-push-clause-early
nodes_of-returns-in_err-push-clause-early t c = λ f w.
    let found = c.in-Some.ensures.found in
    let first = early_first _ _ _ _ f c.loop-rest.invariant w in
    let inside = early_inside _ _ f _ _ _ _ _ w found.1 (sym first ∙ found.2)
    (sym c.may_stand.ensures ∙ c.if-not-may_stand.false) in
    absurd (cc (c.in_ok-node.ensures.early inside.0 f inside.1 inside.2))

pub nodes_of-returns-clause-early : goal.nodes_of-returns-clause-early
nodes_of-returns-clause-early t c = λ f w.
    let end : length c.loop-rest.rest.now ≡ 0 = grind (arith, nat_tests) in
    absurd (early_ends _ _ _ _ f c.loop-rest.invariant end w)
