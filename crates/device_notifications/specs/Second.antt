-- What the observations of a device do in a second.
use Rattle.std.specs.Prelude.{ℕ, zero, suc, ◌+◌, ◌-◌, ◌==◌, Bool, List, [], ◌∷◌, ◌++◌, Option, None, Some}
use Rattle.std.specs.Prelude.{if◌then◌else◌}
use Rattle.std.specs.Option.{option_to_list}
use Rattle.coap_codec.specs.declared.kind.Kind.{Kind}
use Rattle.coap_codec.specs.declared.kind.Kind.TheVariants.{Con, Non}
use Rattle.notifier.specs.Attributes.{assigned_number}
use Rattle.notifier.specs.Observed.{after_notification, next_number}
use Rattle.notifier.specs.Resending.{turn_at}
use Rattle.notifier.specs.Trigger.{is_due, is_triggered}
use Rattle.notifier.specs.declared.attribute.Name.TheVariants as name
use Rattle.notifier.specs.declared.observation.Observation.{Observation}
use Rattle.notifier.specs.declared.observation.Report.{Report}
use Rattle.notifier.specs.declared.observation.Timer.{Timer}
use Rattle.notifier.specs.declared.turn.Turn.{Turn}
use Rattle.notifier.specs.declared.turn.Turn.TheVariants.{Evaluate, Wait, Resend, Expire}
use Rattle.object_defs.specs.declared.path.Path.{Path}
use Rattle.device_requests.specs.Answer.{is_content}
use Rattle.device_requests.specs.Client.{Client}
use Rattle.device_requests.specs.Outcomes.{read_answer}
use Rattle.device_requests.specs.declared.answer.Answer.{Answer}
use Rattle.device_notifications.specs.declared.datagram.Datagram.{Datagram}
use Rattle.device_notifications.specs.declared.evaluation.Evaluation.{Evaluation}
use Rattle.device_notifications.specs.declared.evaluation.Evaluation.TheVariants.{Quiet, Sends, Gone}
use Rattle.device_notifications.specs.Message.{datagram_of, open_notification}
use Rattle.device_notifications.specs.Period.{pmin_of, pmax_of}
use Rattle.device_notifications.specs.Outbox.{id_after}
use Rattle.device_notifications.specs.Report.{number_at, report_of}

-- the present answer of an observation: that of its GET by its server
abbrev pub present_answer : Client → Observation → Answer
present_answer client o = read_answer client o.server o.path o.accept

-- whether content with this payload triggers, compared with the last report of a server's observation of a path
abbrev pub triggers_on : Client → ℕ → Path → Report → List ℕ → Bool
triggers_on client server path report payload =
    is_triggered
    (assigned_number client.attributes server path name.Gt)
    (assigned_number client.attributes server path name.Lt)
    (assigned_number client.attributes server path name.St)
    report.number (number_at client path)
    report.payload payload

-- whether the present answer triggers, compared with what the observation last reported
abbrev pub triggers_now : Client → Observation → List ℕ → Bool
triggers_now client o payload = triggers_on client o.server o.path o.report payload

-- how many seconds old the last message of an observation is
abbrev pub age_of : ℕ → Observation → ℕ
age_of clock o = clock - o.second

-- whether the present answer is sent now
abbrev pub is_due_now : Client → ℕ → Observation → List ℕ → Bool
is_due_now client clock o payload =
    is_due (age_of clock o) (pmin_of client o.server o.path) (pmax_of client o.server o.path)
    (triggers_now client o payload)

-- content is sent when it is due; any other answer is sent at once, and the observation goes
abbrev pub evaluation_on : Client → ℕ → Observation → Answer → Evaluation
evaluation_on client clock o answer =
    if is_content answer then (if is_due_now client clock o answer.payload then Sends answer else Quiet)
    else Gone answer

abbrev pub evaluation_of : Client → ℕ → Observation → Evaluation
evaluation_of client clock o = evaluation_on client clock o (present_answer client o)

-- what is sent, the observations that are left, and the device's next message ID then
pub record Sweep : Type 0 where
  pub sent : List Datagram
  pub left : List Observation
  pub next_id : ℕ

-- nothing is sent, and nothing changes
abbrev pub quiet_sweep : ℕ → List Observation → Sweep
quiet_sweep next_id os = record { sent = []; left = os; next_id = next_id }

-- whether notifications of content are Non-confirmable
abbrev pub sends_nons : Client → Bool
sends_nons client = client.notify == 0

-- the type of a notification of content
abbrev pub notified_kind : Client → Kind
notified_kind client = if sends_nons client then Non else Con

-- what it is sent again by, where it is Confirmable: its bytes, and the first timeout
abbrev pub timer_of : Client → List ℕ → Option Timer
timer_of client bytes = if sends_nons client then None else Some (record { bytes = bytes; first = client.notify })

-- a notification of content, with the next Observe number
abbrev pub next_notification : Client → ℕ → Observation → Answer → Datagram
next_notification client next_id o answer =
    datagram_of (notified_kind client) o next_id (Some (next_number o.number)) answer

-- an observation after it: a Confirmable one opens it
abbrev pub after_next_notification : Client → ℕ → ℕ → Observation → Answer → Observation
after_next_notification client clock next_id o answer =
    after_notification clock next_id (report_of client o.path answer.payload)
    (timer_of client (next_notification client next_id o answer).bytes) o

-- content is notified, and keeps the observation; an answer that ends it is sent once, as a Non-confirmable message
-- without an Observe number
abbrev pub turn_by : Client → ℕ → ℕ → Observation → Evaluation → Sweep
turn_by client clock next_id o Quiet = quiet_sweep next_id (o ∷ [])
turn_by client clock next_id o (Sends answer) =
    record {
      sent = next_notification client next_id o answer ∷ [];
      left = after_next_notification client clock next_id o answer ∷ [];
      next_id = id_after next_id;
    }
turn_by client clock next_id o (Gone answer) =
    record { sent = datagram_of Non o next_id None answer ∷ []; left = []; next_id = id_after next_id }

-- what an observation does that is evaluated
abbrev pub turn_of_evaluated : Client → ℕ → ℕ → Observation → Sweep
turn_of_evaluated client clock next_id o = turn_by client clock next_id o (evaluation_of client clock o)

-- one that is open is not: its notification is sent again with the same bytes, and so with its message ID and its
-- Observe number, or the observation ends with no message (RFC 7252 section 4.2; RFC 7641 section 4.5)
abbrev pub turn_as : Client → ℕ → ℕ → Observation → Turn → Sweep
turn_as client clock next_id o Evaluate = turn_of_evaluated client clock next_id o
turn_as client clock next_id o Wait = quiet_sweep next_id (o ∷ [])
turn_as client clock next_id o Resend =
    record { sent = option_to_list (open_notification o); left = o ∷ []; next_id = next_id }
turn_as client clock next_id o Expire = quiet_sweep next_id []

-- what one observation does in the second that the clock shows
abbrev pub turn_of : Client → ℕ → ℕ → Observation → Sweep
turn_of client clock next_id o = turn_as client clock next_id o (turn_at o clock)

-- one after the other: what both send, and leave
abbrev pub sweep_of_both : Sweep → Sweep → Sweep
sweep_of_both a b = record { sent = a.sent ++ b.sent; left = a.left ++ b.left; next_id = b.next_id }

-- what all of them do in this second, each in its turn
abbrev pub second : Client → ℕ → ℕ → List Observation → Sweep
second client clock next_id [] = quiet_sweep next_id []
second client clock next_id (o ∷ os) =
    sweep_of_both (turn_of client clock next_id o) (second client clock (turn_of client clock next_id o).next_id os)

-- one second after the other: what is sent in both, and what the later one leaves
abbrev pub and_then : Sweep → Sweep → Sweep
and_then a b = record { sent = a.sent ++ b.sent; left = b.left; next_id = b.next_id }

-- what they do in n seconds, where the clock shows this before: it goes up by one, then each of them has its turn
abbrev pub seconds : Client → ℕ → ℕ → ℕ → List Observation → Sweep
seconds client clock zero next_id os = quiet_sweep next_id os
seconds client clock (suc n) next_id os =
    and_then (second client (clock + 1) next_id os)
    (seconds client (clock + 1) n (second client (clock + 1) next_id os).next_id
    (second client (clock + 1) next_id os).left)
