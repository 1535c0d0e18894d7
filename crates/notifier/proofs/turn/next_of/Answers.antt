use Rattle.std.proofs.Common.{ap, sym, ◌∙◌}
use Rattle.notification_times.proofs.Firsts.{same_first}
use Rattle.notifier.specs.Due.{acts_in}
use Rattle.notifier.specs.Resending.{turn_with}
use Rattle.notifier.proofs.Timeouts.{acts_when}
use Rattle.notifier.proofs.turn.next_of.Goals as goal

pub returns-in-Some : goal.returns-in-Some
returns-in-Some c =
    let o = c.args.observation.now in
    let s = c.args.outlook.now in
    same_first _ _ c.args.now c.next_resending.result
    (λ clock. acts_when o.second c.in-Some.timer.first clock s
    ∙ ap (λ timer. acts_in (turn_with o.second timer clock) o.second s clock) (sym c.in-Some.is))
    c.next_resending.ensures
