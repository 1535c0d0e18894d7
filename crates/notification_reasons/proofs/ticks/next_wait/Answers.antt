-- The device's clock shows the second of the flat state, so the wait is the time to the first sending.
use Rattle.std.proofs.Common.{arith}
use Rattle.device_machine.specs.Held.{IsNextSending}
use Rattle.notification_reasons.proofs.ticks.next_wait.Goals as goal
use Rattle.notification_reasons.proofs.ticks.next_wait.Goals.{else-wait-gt0-via-then-wait-gt0+else-wait-from}
use Rattle.notification_reasons.proofs.ticks.next_wait.Goals.{else-wait-gt0-via-else-wait-gt0}

pub returns-in_err-wait-clause-quiet : goal.returns-in_err-wait-clause-quiet
returns-in_err-wait-clause-quiet c = λ f shows fits.
    let next : IsNextSending f c.in_ok-due.due = c.in_ok-due.ensures f shows in
    let later = next.later in
    let shown = c.clock.ensures.shown f shows in
    absurd (c.in_err-wait.ensures (omega (arith, later, shown)))

pub returns-then-wait-from-clause-quiet : goal.returns-then-wait-from-clause-quiet
returns-then-wait-from-clause-quiet c = λ f shows fits clock after until.
    let next : IsNextSending f c.in_ok-due.due = c.in_ok-due.ensures f shows in
    let later = next.later in
    let shown = c.clock.ensures.shown f shows in
    let no_less = c.in_ok-wait.ensures.0 in
    let wait = c.in_ok-wait.ensures.1 in
    let some = c.if-wait-gt0.true in
    next.quiet_before clock after (omega (arith, later, shown, no_less, wait, some, until))

pub returns-else-wait-gt0-clause-quiet : goal.returns-else-wait-gt0-clause-quiet
returns-else-wait-gt0-clause-quiet c = λ f shows fits clock after until.
    let next : IsNextSending f c.in_ok-due.due = c.in_ok-due.ensures f shows in
    let later = next.later in
    let shown = c.clock.ensures.shown f shows in
    let no_less = c.in_ok-wait.ensures.0 in
    let wait = c.in_ok-wait.ensures.1 in
    elim c.else-wait-gt0.branch [
      | else-wait-gt0-via-then-wait-gt0+else-wait-from w ↦
          let same = w.from.ensures in
          let over = w.if-wait-from.false in
          next.quiet_before clock after (omega (arith, later, shown, no_less, wait, same, over, until))
      | else-wait-gt0-via-else-wait-gt0 w ↦
          let none = w.if-wait-gt0.false in
          next.quiet_before clock after (omega (arith, later, shown, no_less, wait, none, until))
    ]
