-- What follows of confirmable notifications, for those who observe (RFC 7252 section 4.2; RFC 7641 section 4.5).
use Rattle.std.specs.Prelude.{◌≡◌, ℕ, ◌*◌, ◌<◌, nat_le, List, [], ◌∷◌, None, Some, if◌then◌else◌}
use Rattle.std.specs.Prelude.{replicate}
use Rattle.std.specs.List.{AllByRecursion, count_by}
use Rattle.coap_codec.specs.declared.kind.Kind.TheVariants.{Non}
use Rattle.notifier.specs.Observed.{after_notification, as_closed, next_number}
use Rattle.notifier.specs.declared.observation.Observation.{Observation}
use Rattle.notifier.specs.declared.observation.Timer.{Timer}
use Rattle.device_requests.specs.Client.{Client}
use Rattle.device_notifications.specs.declared.evaluation.Evaluation.{Evaluation}
use Rattle.device_notifications.specs.declared.evaluation.Evaluation.TheVariants.{Quiet, Sends, Gone}
use Rattle.device_notifications.specs.Message.{datagram_of, resent_datagram}
use Rattle.device_notifications.specs.Outbox.{id_after}
use Rattle.device_notifications.specs.Report.{report_of}
use Rattle.device_notifications.specs.Second.{Sweep, evaluation_of, quiet_sweep, seconds, turn_of, turn_of_evaluated}

-- how often an open notification with this first timeout is sent again in the n seconds after its first sending
abbrev pub resends_within : ℕ → ℕ → ℕ
resends_within first n = count_by (λ times. nat_le (times * first) n) (1 ∷ 3 ∷ 7 ∷ 15 ∷ [])

-- for an open notification that nothing answers, only its first sending and its first timeout decide what comes in the
-- n seconds after it: it is sent again, with the same bytes, 1, 3, 7 and 15 first timeouts after it, and its
-- observation is removed after 31, with no message
abbrev pub SendsFiveTimesAtMost : Type 0
SendsFiveTimesAtMost =
    (client : Client) (o : Observation) (timer : Timer) (n next_id : ℕ) → o.timer ≡ Some timer → 0 < timer.first
    → seconds client o.second n next_id (o ∷ [])
    ≡ record {
      sent = replicate (resends_within timer.first n) (resent_datagram o timer);
      left = if nat_le (31 * timer.first) n then [] else o ∷ [];
      next_id = next_id;
    }

-- an observation that is closed is evaluated in the next second, and by the same report as before it was: that of the
-- last notification that was sent
pub record ClosesWithoutLoss (client : Client) (clock next_id : ℕ) (o : Observation) : Type 0 where
  pub turn : turn_of client clock next_id (as_closed o) ≡ turn_of_evaluated client clock next_id (as_closed o)
  pub report : evaluation_of client clock (as_closed o) ≡ evaluation_of client clock o

abbrev pub LosesNothing : Type 0
LosesNothing = (client : Client) (clock next_id : ℕ) (o : Observation) → ClosesWithoutLoss client clock next_id o

abbrev pub IsClosed : Observation → Type 0
IsClosed o = o.timer ≡ None

-- what an observation does in a second where all notifications are Non-confirmable
abbrev pub turn_with_nons : Client → ℕ → ℕ → Observation → Evaluation → Sweep
turn_with_nons client clock next_id o Quiet = quiet_sweep next_id (o ∷ [])
turn_with_nons client clock next_id o (Sends answer) =
    record {
      sent = datagram_of Non o next_id (Some (next_number o.number)) answer ∷ [];
      left = after_notification clock next_id (report_of client o.path answer.payload) None o ∷ [];
      next_id = id_after next_id;
    }
turn_with_nons client clock next_id o (Gone answer) =
    record { sent = datagram_of Non o next_id None answer ∷ []; left = []; next_id = id_after next_id }

-- in a class whose notifications are Non-confirmable, an observation that is closed is evaluated in each second
abbrev pub EvaluatesWithNons : Type 0
EvaluatesWithNons =
    (client : Client) (clock next_id : ℕ) (o : Observation) → client.notify ≡ 0 → IsClosed o
    → turn_of client clock next_id o ≡ turn_with_nons client clock next_id o (evaluation_of client clock o)

-- and none is ever open
abbrev pub StaysClosedWithNons : Type 0
StaysClosedWithNons =
    (client : Client) (clock n next_id : ℕ) (os : List Observation) → client.notify ≡ 0 → AllByRecursion IsClosed os
    → AllByRecursion IsClosed (seconds client clock n next_id os).left
