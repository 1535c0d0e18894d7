use Rattle.std.proofs.Common.{◌≡◌, ap, ◌∙◌}
use Rattle.ticket_lock.specs.Changes.{opening_view}
use Rattle.ticket_lock.proofs.Aware.{sees_all}
use Rattle.ticket_lock_uses.specs.Items.{items_log}
use Rattle.ticket_lock_uses.proofs.ends.taken_once.Goals as goal

pub returns : goal.returns
returns g c =
    let v = c.in_ok-lock.pass.seat.me.0 in
    let made : v ≡ opening_view items_log c.args.items 9223372036854775806 = c.in_ok-lock.ensures.pass.1 in
    let found : c.in-Ok.held.value ≡ v.front =
    sees_all items_log c.in-Ok.held.value v (ap (λ u. u.low) made) (ap (λ u. u.count) made) c.in-Ok.ensures.value in
    let began : v.front ≡ c.args.items = ap (λ u. u.front) made in
    let gave : c.give.result.seat.me.0.front ≡ c.in-Ok.held.value = ap (λ u. u.front) c.give.ensures.given in
    let kept : c.in-Err.pass.seat.me.0.front ≡ c.give.result.seat.me.0.front =
    ap (λ u. u.front) c.in-Err.ensures.spent.1 in
    c.in-Ok-close.ensures.entries ∙ (kept ∙ (gave ∙ (found ∙ began)))
