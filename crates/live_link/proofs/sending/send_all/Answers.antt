use Rattle.std.proofs.Common.{◌≡◌, ◌∷◌, [], ◌++◌, ap, sym, ◌∙◌, append_assoc, rules}
use Rattle.std.specs.Vec.Iter.{into_iter_items}
use Rattle.live_link.specs.Serving.{AreCutShort}
use Rattle.live_link.proofs.Sent.{cut_behind}
use Rattle.live_link.proofs.sending.send_all.Goals as goal

pub returns-in_err-send_one-clause-cut : goal.returns-in_err-send_one-clause-cut
returns-in_err-send_one-clause-cut g c =
    let at = c.loop-packet in
    let x = c.in-Some.packet in
    let end = c.in_err-send_one.field-0.0 in
    let steps : into_iter_items at.packet-iterator ≡ x ∷ into_iter_items c.next.new.self = c.in-Some.ensures.steps.0 in
    let cut : AreCutShort end c.args.packets.items c.args.sent.now.items c.send_one.new.sent.items
    (g.W.Wire.told c.args.wire.now) (g.W.Wire.told c.send_one.new.wire) =
    cut_behind end at.yielded (x ∷ []) (into_iter_items c.next.new.self) c.args.packets.items _ _ _ _ _ _
    at.invariant.sent c.in_err-send_one.ensures.cut
    (append_assoc at.yielded (x ∷ []) _ ∙ ap (λ ys. at.yielded ++ ys) (sym steps) ∙ at.invariant.left
    ∙ c.into_iter-packet-iterator.ensures.into_iter_gives.0) in
    search (rules, cut)
