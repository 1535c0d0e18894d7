-- Why a device notifies, and when it does not (OMA LwM2M 1.1 Core, attributes; RFC 7641 section 4).
use Rattle.std.specs.Prelude.{◌≡◌, ◌≢◌, ℕ, ◌+◌, ◌*◌, ◌<◌, ◌≤◌, ℤ, pos, ◌-ℤ◌, nat_abs, int_le, int_lt, true}
use Rattle.std.specs.Prelude.{List, Option, None, Some, ◌⊎◌}
use Rattle.std.specs.List.{AllByRecursion, Contains}
use Rattle.notifier.specs.Attributes.{assigned_number}
use Rattle.notifier.specs.Observed.{as_closed}
use Rattle.notifier.specs.Resending.{turn_at}
use Rattle.notifier.specs.Trigger.{has_condition, is_above, is_below}
use Rattle.notifier.specs.declared.attribute.Name.{Name}
use Rattle.notifier.specs.declared.attribute.Name.TheVariants as name
use Rattle.notifier.specs.declared.observation.Observation.{Observation}
use Rattle.notifier.specs.declared.turn.Turn.TheVariants.{Resend}
use Rattle.device_requests.specs.Answer.{is_content}
use Rattle.device_requests.specs.Client.{Client}
use Rattle.device_notifications.specs.Laws.{Ends, Notifies, Repeats}
use Rattle.device_notifications.specs.Period.{pmin_of, pmax_of}
use Rattle.device_notifications.specs.Report.{number_at, report_of}
use Rattle.device_notifications.specs.Second.{after_next_notification, age_of, present_answer, quiet_sweep, second}
use Rattle.device_notifications.specs.Second.{seconds}
use Rattle.device_notifications.specs.declared.datagram.Datagram.{Datagram}

-- the gt, lt or st that the observation's server set on its path, in thousandths
abbrev pub condition : Client → Observation → Name → Option ℤ
condition client o n = assigned_number client.attributes o.server o.path n

-- from the one number to the other a threshold is passed: one is above gt and the other is not, one is below lt and the
-- other is not, or they are st or more apart
pub data Passes (gt lt st : Option ℤ) (old now : ℤ) : Type 0 where
  crosses_gt : (z : ℤ) → gt ≡ Some z → is_above z old ≢ is_above z now → Passes gt lt st old now
  crosses_lt : (z : ℤ) → lt ≡ Some z → is_below z old ≢ is_below z now → Passes gt lt st old now
  steps_st : (z : ℤ) → st ≡ Some z → int_le z (pos (nat_abs (now -ℤ old) * 1000)) ≡ true → Passes gt lt st old now

-- a gt, lt or st is set, and the last report and the present answer have a number each: then the numbers are compared,
-- and not the payloads
pub record ComparesNumbers (client : Client) (o : Observation) (old now : ℤ) : Type 0 where
  pub condition_is_set : has_condition (condition client o name.Gt) (condition client o name.Lt)
      (condition client o name.St) ≡ true
  pub reported : o.report.number ≡ Some old
  pub present_is : number_at client o.path ≡ Some now

-- why an observation is to be notified: its pmax has effect (it is above 0 and not below pmin) and has elapsed; or a
-- threshold was passed since the last report; or, where numbers are not compared, the payload is another than that of
-- the last report
pub data IsCaused (client : Client) (clock : ℕ) (o : Observation) : Type 0 where
  elapsed : (pmax : ℕ) → pmax_of client o.server o.path ≡ Some pmax → 0 < pmax → pmin_of client o.server o.path ≤ pmax
      → pmax ≤ age_of clock o → IsCaused client clock o
  passed : (old now : ℤ) → ComparesNumbers client o old now
      → Passes (condition client o name.Gt) (condition client o name.Lt) (condition client o name.St) old now
      → IsCaused client clock o
  changed : ((old now : ℤ) → ComparesNumbers client o old now → ⊥)
      → (present_answer client o).payload ≢ o.report.payload
      → IsCaused client clock o

-- a datagram of a second notifies one of these observations, for a cause, or ends one, or is the open notification of
-- one once more
abbrev pub IsCausedBy : Client → ℕ → List Observation → Datagram → Type 0
IsCausedBy client clock os d =
    (o : Observation) × Contains os o
    × ((Notifies client clock o d × IsCaused client clock o) ⊎ (Ends client clock o d ⊎ Repeats clock o d))

abbrev pub NotifiesForCause : Type 0
NotifiesForCause =
    (client : Client) (clock next_id : ℕ) (os : List Observation)
    → AllByRecursion (IsCausedBy client clock os) (second client clock next_id os).sent

-- and so is each datagram of n seconds, in one of them
abbrev pub IsCausedInOneOf : Client → ℕ → ℕ → ℕ → List Observation → Datagram → Type 0
IsCausedInOneOf client clock n next_id os d =
    (k : ℕ) × (k < n) × IsCausedBy client (clock + (k + 1)) (seconds client clock k next_id os).left d

abbrev pub SecondsNotifyForCause : Type 0
SecondsNotifyForCause =
    (client : Client) (clock n next_id : ℕ) (os : List Observation)
    → AllByRecursion (IsCausedInOneOf client clock n next_id os) (seconds client clock n next_id os).sent

-- among these datagrams is a notification of this observation
abbrev pub IsTold : Client → ℕ → Observation → List Datagram → Type 0
IsTold client clock o ds = (d : Datagram) × Contains ds d × Notifies client clock o d

-- an observation is closed and to be notified, its last message is pmin seconds old or older, and its present answer is
-- content
pub record IsDue (client : Client) (clock : ℕ) (o : Observation) : Type 0 where
  pub closed : o.timer ≡ None
  pub cause : IsCaused client clock o
  pub waited : pmin_of client o.server o.path ≤ age_of clock o
  pub content : is_content (present_answer client o) ≡ true

-- then the notification is sent in this second
abbrev pub CausedIsSent : Type 0
CausedIsSent =
    (client : Client) (clock next_id : ℕ) (os : List Observation) (o : Observation) → Contains os o
    → IsDue client clock o → IsTold client clock o (second client clock next_id os).sent

-- and so in each of n seconds
abbrev pub SecondsSendCaused : Type 0
SecondsSendCaused =
    (client : Client) (clock n k next_id : ℕ) (os : List Observation) (o : Observation) → k < n
    → Contains (seconds client clock k next_id os).left o
    → IsDue client (clock + (k + 1)) o
    → IsTold client (clock + (k + 1)) o (seconds client clock n next_id os).sent

-- among these datagrams is the open notification of this observation
abbrev pub IsToldAgain : ℕ → Observation → List Datagram → Type 0
IsToldAgain clock o ds = (d : Datagram) × Contains ds d × Repeats clock o d

-- a notification that is to be sent again is sent again in this second
abbrev pub OpenIsSentAgain : Type 0
OpenIsSentAgain =
    (client : Client) (clock next_id : ℕ) (os : List Observation) (o : Observation) → Contains os o
    → turn_at o clock ≡ Resend → IsToldAgain clock o (second client clock next_id os).sent

-- and so in each of n seconds
abbrev pub SecondsSendAgain : Type 0
SecondsSendAgain =
    (client : Client) (clock n k next_id : ℕ) (os : List Observation) (o : Observation) → k < n
    → Contains (seconds client clock k next_id os).left o
    → turn_at o (clock + (k + 1)) ≡ Resend
    → IsToldAgain (clock + (k + 1)) o (seconds client clock n next_id os).sent

-- an observation is closed, and its present answer is content, and what the last report reported; and it has no pmax.
-- Servers can set no st but one above 0
pub record IsSettled (client : Client) (o : Observation) : Type 0 where
  pub closed : o.timer ≡ None
  pub content : is_content (present_answer client o) ≡ true
  pub reported : o.report ≡ report_of client o.path (present_answer client o).payload
  pub no_pmax : pmax_of client o.server o.path ≡ None
  pub st_above_0 : (z : ℤ) → condition client o name.St ≡ Some z → int_lt (pos 0) z ≡ true

-- then nothing is ever sent, and the observations and the next message ID stay as they are
abbrev pub SettledAreQuiet : Type 0
SettledAreQuiet =
    (client : Client) (clock n next_id : ℕ) (os : List Observation) → AllByRecursion (IsSettled client) os
    → seconds client clock n next_id os ≡ quiet_sweep next_id os

-- an observation is settled after its notification: at once where notifications are Non-confirmable, else once an
-- acknowledgement has closed it
pub record SettlesOnceClosed (client : Client) (clock mid : ℕ) (o : Observation) : Type 0 where
  pub of_a_non : client.notify ≡ 0
      → IsSettled client (after_next_notification client clock mid o (present_answer client o))
  pub acknowledged : IsSettled client (as_closed (after_next_notification client clock mid o (present_answer client o)))

-- so it is of what was just reported, where it has no pmax
abbrev pub JustReportedIsSettled : Type 0
JustReportedIsSettled =
    (client : Client) (clock mid : ℕ) (o : Observation) → is_content (present_answer client o) ≡ true
    → pmax_of client o.server o.path ≡ None
    → ((z : ℤ) → condition client o name.St ≡ Some z → int_lt (pos 0) z ≡ true)
    → SettlesOnceClosed client clock mid o
