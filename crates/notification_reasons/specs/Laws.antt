-- What follows of reasons: an observation has one where it does something, and no two.
use Rattle.std.specs.Prelude.{◌≡◌, ◌≢◌, ◌↔◌, ◌⊎◌, ℕ, true, false, List, [], ◌∷◌, ◌++◌, map}
use Rattle.notifier.specs.declared.observation.Observation.{Observation}
use Rattle.device_requests.specs.Client.{Client}
use Rattle.device_notifications.specs.Second.{Sweep, quiet_sweep, turn_of}
use Rattle.device_notifications.specs.declared.datagram.Datagram.{Datagram}
use Rattle.device_machine.specs.Reactions.{outputs_of, send_of}
use Rattle.device_machine.specs.State.{Machine}
use Rattle.device_machine.specs.declared.event.Event.TheVariants.{Tick}
use Rattle.notification_reasons.specs.Reasons.{IsNotificationReason, sends}
use Rattle.notification_reasons.specs.Happenings.{AreTickHappenings, IsHappening}
use Rattle.notification_reasons.specs.declared.reasons.NotificationReason.{NotificationReason}
use Rattle.notification_reasons.specs.declared.reasons.Happening.{Happening}

-- the turn of an observation sends something, or changes it, exactly if there is a reason for it
abbrev pub ReasonsAreForDoing : Type 0
ReasonsAreForDoing =
    (client : Client) (clock next_id : ℕ) (o : Observation)
    → (turn_of client clock next_id o ≢ quiet_sweep next_id (o ∷ []))
    ↔ ((reason : NotificationReason) × IsNotificationReason client clock o reason)

-- what is done for a reason: one datagram is sent, or none, and the observation is removed
abbrev pub DoesFor : NotificationReason → Sweep → Type 0
DoesFor reason t =
    ((sends reason ≡ true) × (d : Datagram) × (t.sent ≡ d ∷ []))
    ⊎ ((sends reason ≡ false) × (t.sent ≡ []) × (t.left ≡ []))

abbrev pub ReasonsSayWhatIsDone : Type 0
ReasonsSayWhatIsDone =
    (client : Client) (clock next_id : ℕ) (o : Observation) (reason : NotificationReason)
    → IsNotificationReason client clock o reason → DoesFor reason (turn_of client clock next_id o)

-- there are no two reasons
abbrev pub ReasonsAreSingle : Type 0
ReasonsAreSingle =
    (client : Client) (clock : ℕ) (o : Observation) (a b : NotificationReason) → IsNotificationReason client clock o a
    → IsNotificationReason client clock o b → a ≡ b

-- these datagrams are all that the turn of an observation sends in the second of this happening, which says why
pub record IsDoneAs (client : Client) (sent : List Datagram) (h : Happening) : Type 0 where
  pub observation : Observation
  pub next_id : ℕ
  pub sent_is : (turn_of client h.second next_id observation).sent ≡ sent
  pub does : DoesFor h.reason (turn_of client h.second next_id observation)
  pub happening : IsHappening client h.second observation h

-- datagrams, one after another: those of each happening
abbrev pub AreDoneAs : Client → List Datagram → List Happening → Type 0
AreDoneAs client ds [] = ds ≡ []
AreDoneAs client ds (h ∷ hs) =
    (sent : List Datagram) × (rest : List Datagram) × IsDoneAs client sent h × AreDoneAs client rest hs
    × (ds ≡ sent ++ rest)

-- what a device outputs in a tick are datagrams, those of these happenings, in their order
pub record OutputsAre (f : Machine) (n : ℕ) (hs : List Happening) : Type 0 where
  pub datagrams : List Datagram
  pub outputs : outputs_of f (Tick n) ≡ map send_of datagrams
  pub each : AreDoneAs f.kept.client datagrams hs

abbrev pub TicksDoThese : Type 0
TicksDoThese = (f : Machine) (n : ℕ) (hs : List Happening) → AreTickHappenings f n hs → OutputsAre f n hs
