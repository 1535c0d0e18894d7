-- How a reason is found, as a function of what is looked at. No promise rests on it.
use Rattle.std.specs.Prelude.{ℕ, ℤ, ◌*◌, ◌==◌, Option, None, Some, List, [], if◌then◌else◌}
use Rattle.std.specs.Option.{option_map_or}
use Rattle.notifier.specs.Due.{is_due_by}
use Rattle.notifier.specs.Resending.{turn_at}
use Rattle.notifier.specs.Trigger.{trigger_in}
use Rattle.notifier.specs.declared.observation.Observation.{Observation}
use Rattle.notifier.specs.declared.observation.Timer.{Timer}
use Rattle.notifier.specs.declared.pending.Outlook.{Outlook}
use Rattle.notifier.specs.declared.pending.Pending.{Pending}
use Rattle.notifier.specs.declared.pending.Pending.TheVariants.{Idle, Changed, Gone}
use Rattle.notifier.specs.declared.turn.Turn.{Turn}
use Rattle.notifier.specs.declared.turn.Turn.TheVariants.{Evaluate, Wait, Resend, Expire}
use Rattle.notifier.specs.declared.trigger.Trigger.{Trigger}
use Rattle.notifier.specs.declared.trigger.Trigger.TheVariants as trigger
use Rattle.device_requests.specs.Client.{Client}
use Rattle.device_notifications.specs.Outlooks.{outlook_of}
use Rattle.device_notifications.specs.Report.{number_at}
use Rattle.device_notifications.specs.Second.{age_of}
use Rattle.notification_reasons.specs.Reasons.{gt_of, lt_of, st_of}
use Rattle.notification_reasons.specs.declared.reasons.DueBy.{DueBy}
use Rattle.notification_reasons.specs.declared.reasons.DueBy.TheVariants.{Gt, Lt, St, Payload, Pmax}
use Rattle.notification_reasons.specs.declared.reasons.NotificationReason.{NotificationReason}
use Rattle.notification_reasons.specs.declared.reasons.NotificationReason.TheVariants.{Due, Resent, Ended, Unacknowledged}

-- a trigger, with both numbers and its bound; the payload, where no number triggers
abbrev pub due_of : Trigger → ℤ → ℤ → Option ℤ → Option ℤ → Option ℤ → DueBy
due_of trigger.Gt old now gt lt st = option_map_or (Gt old now) gt Payload
due_of trigger.Lt old now gt lt st = option_map_or (Lt old now) lt Payload
due_of trigger.St old now gt lt st = option_map_or (St old now) st Payload
due_of trigger.Payload old now gt lt st = Payload

abbrev pub due_by : Option Trigger → ℤ → ℤ → Option ℤ → Option ℤ → Option ℤ → DueBy
due_by None old now gt lt st = Payload
due_by (Some t) old now gt lt st = due_of t old now gt lt st

-- the payload with which the trigger is asked for is none: that of the report has triggered where no number does
abbrev pub by_trigger : Option ℤ → Option ℤ → Option ℤ → Option ℤ → Option ℤ → List ℕ → DueBy
by_trigger gt lt st (Some old) (Some now) payload =
    due_by (trigger_in gt lt st (Some old) (Some now) payload []) old now gt lt st
by_trigger gt lt st (Some old) None payload = Payload
by_trigger gt lt st None now payload = Payload

abbrev pub trigger_of : Client → Observation → DueBy
trigger_of client o =
    by_trigger (gt_of client o) (lt_of client o) (st_of client o) o.report.number (number_at client o.path)
    o.report.payload

-- of what is due, where content that triggers does so by this
abbrev pub reason_of : Pending → DueBy → ℕ → ℕ → Option ℕ → Option NotificationReason
reason_of Idle by age pmin None = None
reason_of Idle by age pmin (Some pmax) = Some (Due (Pmax pmax) age pmin)
reason_of Changed by age pmin pmax = Some (Due by age pmin)
reason_of (Gone code) by age pmin pmax = Some (Ended code)

abbrev pub reason_by : Outlook → DueBy → ℕ → Option NotificationReason
reason_by s by age =
    if is_due_by s.pending age s.pmin s.pmax then reason_of s.pending by age s.pmin s.pmax else None

-- which resending comes so many seconds after the first sending
abbrev pub times_of : ℕ → ℕ → ℕ
times_of first after =
    if after == first then 1 else (if after == 3 * first then 2 else (if after == 7 * first then 3 else 4))

abbrev pub resent_reason : Option Timer → ℕ → Option NotificationReason
resent_reason None after = None
resent_reason (Some timer) after = Some (Resent (times_of timer.first after) after)

-- why an observation that has this turn does something, if it does
abbrev pub reason_in : Client → ℕ → Observation → Turn → Option NotificationReason
reason_in client clock o Evaluate = reason_by (outlook_of client o) (trigger_of client o) (age_of clock o)
reason_in client clock o Wait = None
reason_in client clock o Resend = resent_reason o.timer (age_of clock o)
reason_in client clock o Expire = Some (Unacknowledged (age_of clock o))

abbrev pub reason_at : Client → ℕ → Observation → Option NotificationReason
reason_at client clock o = reason_in client clock o (turn_at o clock)
