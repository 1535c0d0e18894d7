use Rattle.std.proofs.Common.{◌≡◌, sym, ap, ◌∙◌}
use Rattle.lwm2m_values.specs.Tree.{multi, tree_of, trees_of}
use Rattle.lwm2m_payloads.specs.Building.{with_last, part_behind}
use Rattle.lwm2m_payloads.proofs.Growth.{trees_of-push, part_taken, part_apart}
use Rattle.lwm2m_payloads.proofs.records.take_parts.Goals as goal

pub returns-in-Ok : goal.returns-in-Ok
returns-in-Ok c = λ p.
    let whole : trees_of c.args.nodes.now.items ≡ with_last (trees_of c.pop.new.self.items) (tree_of c.in-Some.last) =
    ap trees_of c.in-Some.ensures.items ∙ trees_of-push c.pop.new.self.items c.in-Some.last in
    part_taken (trees_of c.pop.new.self.items) (tree_of c.in-Some.last) c.args.resource p
    (trees_of c.in-Ok.parts.items) c.in-Ok.ensures.parts
    ∙ ap (part_behind c.args.resource p) (sym whole)

pub returns-in_ok-push-in-Err : goal.returns-in_ok-push-in-Err
returns-in_ok-push-in-Err c = λ p.
    let r = c.args.resource in
    let before = trees_of c.pop.new.self.items in
    let last = tree_of c.in-Some.last in
    let whole : trees_of c.args.nodes.now.items ≡ with_last before last =
    ap trees_of c.in-Some.ensures.items ∙ trees_of-push c.pop.new.self.items c.in-Some.last in
    let back : trees_of c.push.new.self.items ≡ with_last before last =
    ap trees_of c.in_ok-push-in-Err.ensures.items ∙ trees_of-push c.pop.new.self.items c.in-Err.last
    ∙ ap (with_last before) c.in-Err.ensures.other in
    ap (λ t. with_last t (multi r (with_last (trees_of c.new-in-Err.result.items) p))) back
    ∙ ap (λ t. with_last (with_last before last) (multi r (with_last (trees_of t) p))) c.new-in-Err.ensures.items
    ∙ part_apart before last r p (c.in-Err.ensures.apart p)
    ∙ ap (part_behind r p) (sym whole)
