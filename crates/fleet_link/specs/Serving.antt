-- A fleet that is served: what each of its devices is, of what its port handed out and took in.
use Rattle.std.specs.Prelude.{◌≡◌, ℕ, ◌+◌, ◌≤◌, ◌<◌, Bool, true, false, take, List, [], ◌∷◌, ◌++◌, length, slice_get}
use Rattle.std.specs.Prelude.{Option, None}
use Rattle.std.specs.Prelude.{Some, IfSome, MatchOption}
use Rattle.std.specs.List.{sum_by, AllByRecursion}
use Rattle.device_machine.specs.declared.event.Event.TheVariants.{Recv, Put, Firmware, Tick}
use Rattle.device_machine.specs.Held.{IsNextSending, IsSilent}
use Rattle.device_machine.specs.Reactions.{passes_end}
use Rattle.device_machine.specs.State.{Machine, Device, Shows}
use Rattle.device_template.specs.Template.{Template}
use Rattle.live_link.specs.Live.{sent_by}
use Rattle.scenario_image.specs.declared.step.Step.{Step}
use Rattle.scenario_image.specs.declared.step.Step.TheVariants.{Event, Post, Need}
use Rattle.scenario_image.specs.Play.{start, state_after, IsRowOf}
use Rattle.scenario_image.specs.Scenario.{Row, Scenario}
use Rattle.fleet_link.specs.declared.recording.Recording.{Recording}
use Rattle.fleet_link.specs.declared.slot.DeviceEnd.{DeviceEnd}
use Rattle.fleet_link.specs.declared.slot.DeviceEnd.TheVariants.{Memory, Port, Spent}
use Rattle.fleet_link.specs.declared.slot.Slot.{Slot}
use Rattle.fleet_link.specs.Playing.{changes_by, changes_of, happened_of, happened_count, played_steps, posts_in}
use Rattle.fleet_link.specs.Playing.{posts_made}
use Rattle.fleet_link.specs.Playing.{row_state, second_after, second_by, Change}
use Rattle.fleet_link.specs.Playing.{CanPass, IsFleetStep, IsLaterThan, HasHappenedBy, IsOnTime, IsRowStep, IsUnderWay}
use Rattle.fleet_link.specs.Recorded.{IsRecorded}
use Rattle.fleet_link.specs.Traffic.{Carries, ReceivedPacket, Traffic}

-- ---- what steps receive

-- the datagram that a step receives at this second
abbrev pub heard_at : ℕ → Step → List ReceivedPacket
heard_at second (Event (Recv server bytes)) =
    record { second = second; packet = record { server = server; bytes = bytes } } ∷ []
heard_at second (Event (Put path value)) = []
heard_at second (Event (Firmware code)) = []
heard_at second (Event (Tick seconds)) = []
heard_at second (Post group) = []
heard_at second (Need group count) = []

-- the datagrams that steps receive, in order, each with the second of the device that receives it
abbrev pub heard_by : ℕ → List Step → List ReceivedPacket
heard_by second [] = []
heard_by second (step ∷ steps) = heard_at second step ++ heard_by (second_after second step) steps

-- ---- a device

-- its clock stands within a day of the last second that it can show
pub record IsNearEnd (f : Machine) (steps : List Step) : Type 0 where
  pub seconds : ℕ
  pub few : seconds ≤ 86400
  pub passes : passes_end (state_after f steps).kept.clock (Tick seconds) ≡ true

-- a device that goes on, or has ended so, after these steps: its port has failed so often
abbrev pub IsEndOf : Option DeviceEnd → Machine → List Step → ℕ → Type 0
IsEndOf None f steps failures = failures ≡ 0
IsEndOf (Some Port) f steps failures = 1 ≤ failures
IsEndOf (Some Spent) f steps failures = IsNearEnd f steps
IsEndOf (Some Memory) f steps failures = Unit {0}

-- A device began in the flat state f, at second 0, with a port that told this before and tells this now. It has taken
-- steps: what the port handed out is what they receive, each datagram at its second, and then what is still pending;
-- all that they output was sent; and the changes among them are these, each at its second. The steps of other devices
-- have no part in it.
pub record IsServing (f : Machine) (before : Option Traffic) (pending : List ReceivedPacket) (changes : List Change)
    (end : Option DeviceEnd) (device : Device) (second : ℕ) (recording : Recording) (after : Option Traffic)
    : Type 0 where
  pub steps : List Step
  pub failures : ℕ
  pub told : Carries before after
      (record { handed = heard_by 0 steps ++ pending; sent = sent_by f steps; failures = failures })
  pub clock : second ≡ second_by 0 steps
  pub each : AllByRecursion IsFleetStep steps
  pub changed : changes_by 0 steps ≡ changes
  pub shows : end ≡ None → Shows device (state_after f steps)
  pub ended : IsEndOf end f steps failures
  pub recorded : IsRecorded recording steps

-- this is the first second in which a device sends something by itself, if there is one
abbrev pub IsDue : Device → Option ℕ → Type 0
IsDue device due = (f : Machine) → Shows device f → MatchOption due (IsSilent f) (IsNextSending f)

-- A device of a class is served from its start, and these steps of its row are played, once or over and over: the
-- changes of those that have happened are all that it has made of its own. While it goes on nothing is pending, and the
-- second in which it is due next is known, and still to come. One that has ended hears no more. It ended because memory
-- ran out only if it may have.
pub record IsServed (class : Template) (row : List Step) (before : Option Traffic) (slot : Slot) (broken : Bool)
    (after : Option Traffic) : Type 0 where
  pub unheard : List ReceivedPacket
  pub serving : IsServing (start class) before unheard (changes_of slot.row) slot.end slot.device slot.second
      slot.recording after
  pub row_is : IsUnderWay row slot.row
  pub on_time : slot.end ≡ None → IsOnTime slot.row slot.second
  pub heard : slot.end ≡ None → unheard ≡ []
  pub due : slot.end ≡ None → IsDue slot.device slot.due
  pub later : slot.end ≡ None → IfSome slot.due (λ d. slot.second < d)
  pub memory : slot.end ≡ Some Memory → broken ≡ true

-- ---- all devices

-- the device of a row is served from the start of its class, and its row is played, or is not
pub record IsRowServed (s : Scenario) (played : Bool) (e : ℕ) (before : Option Traffic) (slot : Slot) (broken : Bool)
    (after : Option Traffic) : Type 0 where
  pub class : Template
  pub steps : List Step
  pub row : IsRowOf s e class steps
  pub served : IsServed class (played_steps played steps) before slot broken after

-- how many posts to a group the rows of all devices have made, up to this second
abbrev pub posts_of : List Slot → ℕ → ℕ → ℕ
posts_of slots group until = sum_by (λ slot. posts_in slot.row group until) slots

-- each need that a row has passed had its posts by the second to which it held the row up
abbrev pub AreMet : Scenario → Bool → List Slot → Type 0
AreMet s played slots =
    (e k group count : ℕ) (row : Row) (slot : Slot) → slice_get s.rows e ≡ Some row → slice_get slots e ≡ Some slot
    → k < happened_count slot.row → IsRowStep (played_steps played row.steps) k (Need group count)
    → count ≤ posts_of slots group (second_by 0 (take (k + 1) (happened_of slot.row)))

-- the devices of a scenario are served, each on its port, and at most to this second; their rows are played, or are
-- not, and no step of them has happened later. One of them ended because memory ran out only if the session is broken
-- off
pub record IsFleet (s : Scenario) (played : Bool) (before : ℕ → Option Traffic) (slots : List Slot) (now : ℕ)
    (broken : Bool) (after : ℕ → Option Traffic) : Type 0 where
  pub count : length slots ≡ length s.rows
  pub each : (e : ℕ) (slot : Slot) → slice_get slots e ≡ Some slot
      → IsRowServed s played e (before e) slot broken (after e)
  pub early : (e : ℕ) (slot : Slot) → slice_get slots e ≡ Some slot → slot.second ≤ now
  pub made : (e : ℕ) (slot : Slot) → slice_get slots e ≡ Some slot → HasHappenedBy now slot.row
  pub met : AreMet s played slots

-- nothing is to be done by a device at this second or before: it sends nothing by itself, and no step of its row is
-- due, unless it waits at a need
pub record IsSweptAt (slot : Slot) (second : ℕ) : Type 0 where
  pub due : IfSome slot.due (λ d. second < d)
  pub row : IsLaterThan second (row_state slot.row)

-- of the first n devices each that goes on has nothing to do at this second or before
abbrev pub AreSwept : List Slot → ℕ → ℕ → Type 0
AreSwept slots n second =
    (e : ℕ) (slot : Slot) → e < n → slice_get slots e ≡ Some slot → slot.end ≡ None → IsSweptAt slot second

-- of the first n devices each that goes on stands at this second
abbrev pub AreAt : List Slot → ℕ → ℕ → Type 0
AreAt slots n second =
    (e : ℕ) (slot : Slot) → e < n → slice_get slots e ≡ Some slot → slot.end ≡ None → slot.second ≡ second

-- all steps of each device are recorded
abbrev pub AreRecorded : List Slot → Type 0
AreRecorded slots = (e : ℕ) (slot : Slot) → slice_get slots e ≡ Some slot → slot.recording.complete ≡ true

-- ---- what a session does with rows and recordings

-- how many steps of the row of a device have happened, if there is the device
abbrev pub place_in : Option Slot → ℕ
place_in None = 0
place_in (Some slot) = happened_count slot.row

-- whether the row of a device is to be repeated
abbrev pub repeats_in : Option Slot → Bool
repeats_in None = false
repeats_in (Some slot) = slot.row.repeated

-- how many bytes of an image its recording may take
abbrev pub share_in : Option Slot → ℕ
share_in None = 0
share_in (Some slot) = slot.recording.share

-- no row has gone back, each is repeated that was to be, and each recording may take what it might
pub record HaveGoneOn (before after : List Slot) : Type 0 where
  pub further : (e : ℕ) → place_in (slice_get before e) ≤ place_in (slice_get after e)
  pub repeats : (e : ℕ) → repeats_in (slice_get after e) ≡ repeats_in (slice_get before e)
  pub shares : (e : ℕ) → share_in (slice_get after e) ≡ share_in (slice_get before e)

-- how many posts to a group the rows of all devices have made
abbrev pub all_posts : List Slot → ℕ → ℕ
all_posts slots group = sum_by (λ slot. posts_made slot.row group) slots

-- Each need at which the row of a device waited and whose posts stood, at this second, was passed.
abbrev pub ArePassed : List Slot → List Slot → ℕ → Type 0
ArePassed before after now =
    (e group : ℕ) (slot : Slot) → slice_get before e ≡ Some slot → slot.end ≡ None
    → CanPass group (all_posts before group) now slot.row → happened_count slot.row < place_in (slice_get after e)

-- the rows of all devices are to be repeated, or none is
abbrev pub AreRepeated : List Slot → Bool → Type 0
AreRepeated slots repeated =
    (e : ℕ) (slot : Slot) → slice_get slots e ≡ Some slot → slot.row.repeated ≡ repeated

-- each device may record this many bytes of an image
abbrev pub HaveShare : List Slot → ℕ → Type 0
HaveShare slots share =
    (e : ℕ) (slot : Slot) → slice_get slots e ≡ Some slot → slot.recording.share ≡ share
