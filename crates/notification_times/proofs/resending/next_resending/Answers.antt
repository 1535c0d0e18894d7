use Rattle.std.proofs.Common.{◌+◌, ◌*◌, ◌==◌, ◌||◌, nat_le, ◌∙◌, ap}
use Rattle.notification_times.specs.Timeouts.{is_resent, is_timed_out, max_retransmit}
use Rattle.notification_times.proofs.Firsts.{same_first}
use Rattle.notification_times.proofs.Sums.{due_by_sums}
use Rattle.notification_times.proofs.resending.next_resending.Goals as goal

pub returns : goal.returns
returns c =
    let s = c.args.second in
    let t = c.from-timeout.result in
    same_first _ _ c.args.now c.earlier.result
    (λ clock. due_by_sums s t clock
    ∙ ap (λ first. is_resent s first clock max_retransmit || is_timed_out s first clock) c.from-timeout.ensures)
    (c.earlier.ensures (λ clock. clock == s + t) _ c.args.now c.only_at-4.ensures
    (c.earlier-from_second.ensures (λ clock. clock == s + 3 * t) _ c.args.now c.only_at-3.ensures
    (c.earlier-from_third.ensures (λ clock. clock == s + 7 * t) _ c.args.now c.only_at-2.ensures
    (c.earlier-from_fourth.ensures (λ clock. clock == s + 15 * t) (λ clock. nat_le (s + 31 * t) clock) c.args.now
    c.only_at.ensures c.first_from-end.ensures))))
