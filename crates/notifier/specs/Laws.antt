-- What follows of confirmable notifications: when they are sent again, in numbers, and that observations which are
-- closed are evaluated in each second (RFC 7252 section 4.2; RFC 7641 section 4.5).
use Rattle.std.specs.Prelude.{◌≡◌, ◌≢◌, ℕ, ◌+◌, ◌*◌, ◌<◌, ◌≤◌, ◌↔◌, ◌⊎◌, ◌==◌, ◌&&◌, false, None, Some}
use Rattle.notifier.specs.Due.{acts_at, is_due_at}
use Rattle.notifier.specs.Observed.{is_awaited, was_sent}
use Rattle.notifier.specs.Resending.{turn_at}
use Rattle.notifier.specs.declared.observation.Observation.{Observation}
use Rattle.notifier.specs.declared.observation.Timer.{Timer}
use Rattle.notifier.specs.declared.pending.Outlook.{Outlook}
use Rattle.notifier.specs.declared.turn.Turn.TheVariants.{Evaluate, Resend, Expire}

-- with a first timeout of T seconds, above 0, a notification is sent again T, 3T, 7T and 15T seconds after its first
-- sending, and at no other time
abbrev pub ResendsFourTimes : Type 0
ResendsFourTimes =
    (o : Observation) (timer : Timer) (clock : ℕ) → o.timer ≡ Some timer → 0 < timer.first
    → (turn_at o clock ≡ Resend)
    ↔ ((clock ≡ o.second + timer.first) ⊎ ((clock ≡ o.second + 3 * timer.first)
    ⊎ ((clock ≡ o.second + 7 * timer.first) ⊎ (clock ≡ o.second + 15 * timer.first))))

-- from 31T seconds on the observation is to be removed, and not before
abbrev pub EndsAfterTheLastTimeout : Type 0
EndsAfterTheLastTimeout =
    (o : Observation) (timer : Timer) (clock : ℕ) → o.timer ≡ Some timer
    → (turn_at o clock ≡ Expire) ↔ (o.second + 31 * timer.first ≤ clock)

-- and as long as it is open it is not evaluated
abbrev pub IsNotEvaluated : Type 0
IsNotEvaluated =
    (o : Observation) (timer : Timer) (clock : ℕ) → o.timer ≡ Some timer → turn_at o clock ≢ Evaluate

-- an observation that is closed is evaluated in each second, sends or is removed by its present answer alone, awaits no
-- acknowledgement, and is removed by a Reset only where its last message was a NON
pub record IsAsWithNons (o : Observation) : Type 0 where
  pub turn : (clock : ℕ) → turn_at o clock ≡ Evaluate
  pub acts : (s : Outlook) (clock : ℕ) → acts_at o s clock ≡ is_due_at o.second s clock
  pub awaits : (server mid : ℕ) → is_awaited server mid o ≡ false
  pub rejected : (server mid : ℕ) → was_sent server mid o ≡ (server == o.server && (o.non && o.mid == mid))

abbrev pub ClosedIsEvaluated : Type 0
ClosedIsEvaluated = (o : Observation) → o.timer ≡ None → IsAsWithNons o
