-- Why a device notifies in a tick, and when it does not (OMA LwM2M 1.1 Core, attributes; RFC 7641 section 4).
use Rattle.std.specs.Prelude.{◌≡◌, ◌≢◌, ℕ, ◌+◌, ◌-◌, ◌^◌, ◌<◌, ◌↔◌, ◌⊎◌, List, [], ◌∷◌, length, map}
use Rattle.std.specs.List.{AllByRecursion, Contains}
use Rattle.notifier.specs.Due.{IsFirstDue, IsNeverDue}
use Rattle.notifier.specs.declared.observation.Observation.{Observation}
use Rattle.notifier.specs.Resending.{turn_at}
use Rattle.notifier.specs.declared.turn.Turn.TheVariants.{Resend}
use Rattle.device_notifications.specs.Laws.{Notifies, Repeats}
use Rattle.device_notifications.specs.Outlooks.{AreAtRest, outlooks_of}
use Rattle.device_notifications.specs.declared.datagram.Datagram.{Datagram}
use Rattle.device_machine.specs.declared.event.Event.{Event}
use Rattle.device_machine.specs.declared.event.Event.TheVariants.{Firmware, Put, Recv, Tick}
use Rattle.device_machine.specs.Held.{IsNextSending, IsSilent}
use Rattle.device_machine.specs.Reactions.{flat_after, outputs_of, send_of}
use Rattle.device_machine.specs.State.{Machine}
use Rattle.laws_device.specs.Notifying.{IsCausedBy, IsDue, IsSettled}

-- a datagram is sent in a second of a tick by an observation that is there then: it notifies for a cause, or ends the
-- observation, or is its open notification once more
abbrev pub IsCausedIn : Machine → ℕ → Datagram → Type 0
IsCausedIn f n d =
    (k : ℕ) × (k < n) × IsCausedBy f.kept.client (f.kept.clock + (k + 1)) (flat_after f (Tick k)).kept.observations d

-- so is all that a device outputs in a tick
pub record SendsForCause (f : Machine) (n : ℕ) : Type 0 where
  pub datagrams : List Datagram
  pub sent : outputs_of f (Tick n) ≡ map send_of datagrams
  pub each : AllByRecursion (IsCausedIn f n) datagrams

abbrev pub TicksNotifyForCause : Type 0
TicksNotifyForCause = (f : Machine) (n : ℕ) → SendsForCause f n

-- a closed observation that is to be notified in a second of a tick, is not inside pmin and has content is notified in
-- it
abbrev pub TicksSendCaused : Type 0
TicksSendCaused =
    (f : Machine) (n k : ℕ) (o : Observation) → k < n → Contains (flat_after f (Tick k)).kept.observations o
    → IsDue f.kept.client (f.kept.clock + (k + 1)) o
    → (d : Datagram) × Contains (outputs_of f (Tick n)) (send_of d)
    × Notifies f.kept.client (f.kept.clock + (k + 1)) o d

-- and an open notification that is to be sent again in a second of a tick is sent again
abbrev pub TicksSendAgain : Type 0
TicksSendAgain =
    (f : Machine) (n k : ℕ) (o : Observation) → k < n → Contains (flat_after f (Tick k)).kept.observations o
    → turn_at o (f.kept.clock + (k + 1)) ≡ Resend
    → (d : Datagram) × Contains (outputs_of f (Tick n)) (send_of d) × Repeats (f.kept.clock + (k + 1)) o d

-- a tick outputs nothing, and only the clock goes on
pub record IsQuiet (f : Machine) (n : ℕ) : Type 0 where
  pub sent : outputs_of f (Tick n) ≡ []
  pub client : (flat_after f (Tick n)).kept.client ≡ f.kept.client
  pub observations : (flat_after f (Tick n)).kept.observations ≡ f.kept.observations
  pub clock : (flat_after f (Tick n)).kept.clock ≡ f.kept.clock + n
  pub next_id : (flat_after f (Tick n)).kept.next_id ≡ f.kept.next_id
  pub recorded : (flat_after f (Tick n)).recorded ≡ f.recorded

-- with nothing changed and no pmax
abbrev pub SettledTicksAreQuiet : Type 0
SettledTicksAreQuiet =
    (f : Machine) (n : ℕ) → AllByRecursion (IsSettled f.kept.client) f.kept.observations → IsQuiet f n

-- what is managed and the observations are as they were
pub record IsUnchanged (f g : Machine) : Type 0 where
  pub client : g.kept.client ≡ f.kept.client
  pub observations : g.kept.observations ≡ f.kept.observations

-- time passes, or an event changes neither
abbrev pub IsStill : Machine → Event → Type 0
IsStill f (Tick n) = Unit {0}
IsStill f (Recv server bytes) = IsUnchanged f (flat_after f (Recv server bytes))
IsStill f (Put path value) = IsUnchanged f (flat_after f (Put path value))
IsStill f (Firmware code) = IsUnchanged f (flat_after f (Firmware code))

-- time passes and nothing is sent; what answers another event is not looked at
abbrev pub PassesQuietly : Machine → Event → Type 0
PassesQuietly f (Tick n) = outputs_of f (Tick n) ≡ []
PassesQuietly f (Recv server bytes) = Unit {0}
PassesQuietly f (Put path value) = Unit {0}
PassesQuietly f (Firmware code) = Unit {0}

-- so it is of each event of a row
abbrev pub EachInRow : (Machine → Event → Type 0) → Machine → List Event → Type 0
EachInRow P f [] = Unit {0}
EachInRow P f (event ∷ events) = P f event × EachInRow P (flat_after f event) events

-- as long as nothing changes, whatever arrives, no time that passes sends anything
abbrev pub SettledRowsAreQuiet : Type 0
SettledRowsAreQuiet =
    (f : Machine) (events : List Event) → AllByRecursion (IsSettled f.kept.client) f.kept.observations
    → EachInRow IsStill f events → EachInRow PassesQuietly f events

-- a tick in whose seconds nothing is due, by the present answers
abbrev pub TicksAtRestAreQuiet : Type 0
TicksAtRestAreQuiet =
    (f : Machine) (n : ℕ)
    → AreAtRest f.kept.observations (outlooks_of f.kept.client f.kept.observations) f.kept.clock (f.kept.clock + n)
    → IsQuiet f n

-- ticks that end before this second, which is after the clock and below 2^64, are quiet, and in one that ends with it
-- something is sent or an observation is removed
pub record EndsQuiet (f : Machine) (first : ℕ) : Type 0 where
  pub later : f.kept.clock < first
  pub fits : first < 2 ^ 64
  pub quiet_before : (n : ℕ) → f.kept.clock + n < first → IsQuiet f n
  pub acts : (outputs_of f (Tick (first - f.kept.clock)) ≢ [])
      ⊎ (length (flat_after f (Tick (first - f.kept.clock))).kept.observations < length f.kept.observations)

-- that is the second which is found by the present answers
abbrev pub QuietEndsWhenDue : Type 0
QuietEndsWhenDue =
    (f : Machine) (first : ℕ)
    → IsFirstDue f.kept.clock f.kept.observations (outlooks_of f.kept.client f.kept.observations) first
    ↔ EndsQuiet f first

-- and where none is found, all ticks are quiet that end below 2^64
abbrev pub QuietNeverEnds : Type 0
QuietNeverEnds =
    (f : Machine) → IsNeverDue f.kept.clock f.kept.observations (outlooks_of f.kept.client f.kept.observations)
    ↔ ((n : ℕ) → f.kept.clock + n < 2 ^ 64 → IsQuiet f n)

-- the second in which a device says that it sends or removes something next is the one in which its quiet ends
abbrev pub DueEndsQuiet : Type 0
DueEndsQuiet = (f : Machine) (first : ℕ) → IsNextSending f first ↔ EndsQuiet f first

-- and where it says that there is none, its quiet never ends
abbrev pub SilenceIsQuiet : Type 0
SilenceIsQuiet = (f : Machine) → IsSilent f ↔ ((n : ℕ) → f.kept.clock + n < 2 ^ 64 → IsQuiet f n)
