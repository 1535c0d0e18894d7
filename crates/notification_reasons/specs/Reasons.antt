-- Why an observation sends or ends in a second (OMA LwM2M 1.1 Core, attributes; RFC 7252 section 4.2; RFC 7641 section
-- 4).
use Rattle.std.specs.Prelude.{◌≡◌, ◌≢◌, ◌⊎◌, ℕ, ℤ, suc, ◌+◌, ◌<◌, ◌≤◌, Bool, true, false, Option, None, Some, []}
use Rattle.std.specs.Prelude.{◌∷◌}
use Rattle.notifier.specs.Attributes.{assigned_number}
use Rattle.notification_times.specs.Timeouts.{after_timeouts, max_retransmit}
use Rattle.notifier.specs.Resending.{turn_at}
use Rattle.notifier.specs.Trigger.{crosses_gt, crosses_lt, has_condition, steps_st}
use Rattle.notifier.specs.declared.attribute.Name.TheVariants as name
use Rattle.notifier.specs.declared.observation.Observation.{Observation}
use Rattle.notifier.specs.declared.observation.Timer.{Timer}
use Rattle.notifier.specs.declared.turn.Turn.TheVariants.{Evaluate, Resend, Expire}
use Rattle.device_requests.specs.Answer.{code_byte, is_content}
use Rattle.device_requests.specs.Client.{Client}
use Rattle.device_requests.specs.Ruling.{code_of}
use Rattle.device_notifications.specs.Period.{pmax_of, pmin_of}
use Rattle.device_notifications.specs.Report.{number_at}
use Rattle.device_notifications.specs.Second.{age_of, present_answer, quiet_sweep, triggers_now, turn_of}
use Rattle.notification_reasons.specs.declared.reasons.DueBy.{DueBy}
use Rattle.notification_reasons.specs.declared.reasons.DueBy.TheVariants.{Gt, Lt, St, Payload, Pmax}
use Rattle.notification_reasons.specs.declared.reasons.NotificationReason.{NotificationReason}
use Rattle.notification_reasons.specs.declared.reasons.NotificationReason.TheVariants.{Due, Resent, Ended, Unacknowledged}

-- the turn of an observation in the second that the clock shows sends nothing, and the observation stays as it is
abbrev pub DoesNothing : Client → ℕ → Observation → Type 0
DoesNothing client clock o = (next_id : ℕ) → turn_of client clock next_id o ≡ quiet_sweep next_id (o ∷ [])

-- ---- content that is due

-- the conditions on numbers that the observation's server has set on its very path, in thousandths
abbrev pub gt_of : Client → Observation → Option ℤ
gt_of client o = assigned_number client.attributes o.server o.path name.Gt

abbrev pub lt_of : Client → Observation → Option ℤ
lt_of client o = assigned_number client.attributes o.server o.path name.Lt

abbrev pub st_of : Client → Observation → Option ℤ
st_of client o = assigned_number client.attributes o.server o.path name.St

-- these are the number that the observation last reported, and the present one
pub record ComparesNumbers (client : Client) (o : Observation) (old now : ℤ) : Type 0 where
  pub old_is : o.report.number ≡ Some old
  pub now_is : number_at client o.path ≡ Some now

-- one of the two numbers is lacking, or there is no condition on them: payloads are compared
abbrev pub ComparesPayloads : Client → Observation → Type 0
ComparesPayloads client o =
    (o.report.number ≡ None)
    ⊎ ((number_at client o.path ≡ None)
    ⊎ (has_condition (gt_of client o) (lt_of client o) (st_of client o) ≡ false))

-- why content is due of an observation whose last message is this old: the first of gt, lt and st that holds; the
-- payloads differ, where they are compared; or pmax, which applies, has elapsed while nothing triggers
abbrev pub IsDueBy : Client → Observation → ℕ → ℕ → DueBy → Type 0
IsDueBy client o age pmin (Gt old now gt) =
    ComparesNumbers client o old now × (gt_of client o ≡ Some gt) × (crosses_gt (Some gt) old now ≡ true)
IsDueBy client o age pmin (Lt old now lt) =
    ComparesNumbers client o old now × (lt_of client o ≡ Some lt) × (crosses_lt (Some lt) old now ≡ true)
    × (crosses_gt (gt_of client o) old now ≡ false)
IsDueBy client o age pmin (St old now st) =
    ComparesNumbers client o old now × (st_of client o ≡ Some st) × (steps_st (Some st) old now ≡ true)
    × (crosses_gt (gt_of client o) old now ≡ false) × (crosses_lt (lt_of client o) old now ≡ false)
IsDueBy client o age pmin Payload = ComparesPayloads client o × (o.report.payload ≢ (present_answer client o).payload)
IsDueBy client o age pmin (Pmax pmax) =
    (triggers_now client o (present_answer client o).payload ≡ false) × (pmax_of client o.server o.path ≡ Some pmax)
    × (0 < pmax) × (pmin ≤ pmax) × (pmax ≤ age)

-- the observation is not open, its present answer is content, and its last message is this old, which is not below its
-- minimum period
pub record IsReady (client : Client) (clock : ℕ) (o : Observation) (age pmin : ℕ) : Type 0 where
  pub evaluated : turn_at o clock ≡ Evaluate
  pub content : is_content (present_answer client o) ≡ true
  pub age_is : age_of clock o ≡ age
  pub pmin_is : pmin_of client o.server o.path ≡ pmin
  pub waited : pmin ≤ age

-- ---- a notification that is sent again, and ends

-- this is the second of the kth of the resendings of the observation's open notification, so many seconds after its
-- first sending
pub record IsResending (clock : ℕ) (o : Observation) (times after : ℕ) : Type 0 where
  pub timer : Timer
  pub open_by : o.timer ≡ Some timer
  pub resends : turn_at o clock ≡ Resend
  pub some : 1 ≤ times
  pub most : times ≤ max_retransmit
  pub second_of : clock ≡ after_timeouts o.second timer.first times
  pub after_is : clock ≡ o.second + after

-- the observation is not open, and its present answer is not content: it ends with that answer, of this code
pub record IsEnd (client : Client) (clock : ℕ) (o : Observation) (code : ℕ) : Type 0 where
  pub evaluated : turn_at o clock ≡ Evaluate
  pub no_content : is_content (present_answer client o) ≡ false
  pub code_is : code_byte (code_of (present_answer client o).ruling) ≡ code

-- all timeouts of the observation's open notification have passed, so many seconds after its first sending: it ends,
-- and nothing is sent
pub record IsGivenUp (clock : ℕ) (o : Observation) (after : ℕ) : Type 0 where
  pub timer : Timer
  pub open_by : o.timer ≡ Some timer
  pub expires : turn_at o clock ≡ Expire
  pub over : after_timeouts o.second timer.first (suc max_retransmit) ≤ clock
  pub after_is : clock ≡ o.second + after

-- why the turn of an observation in the second that the clock shows sends something, or ends the observation
abbrev pub IsNotificationReason : Client → ℕ → Observation → NotificationReason → Type 0
IsNotificationReason client clock o (Due by age pmin) =
    IsReady client clock o age pmin × IsDueBy client o age pmin by
IsNotificationReason client clock o (Resent times after) = IsResending clock o times after
IsNotificationReason client clock o (Ended code) = IsEnd client clock o code
IsNotificationReason client clock o (Unacknowledged after) = IsGivenUp clock o after

-- whether a datagram is sent for a reason: for all but the end of an observation that nobody acknowledged
abbrev pub sends : NotificationReason → Bool
sends (Due by age pmin) = true
sends (Resent times after) = true
sends (Ended code) = true
sends (Unacknowledged after) = false
