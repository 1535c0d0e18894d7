-- The datagrams of all devices that go one way: what came, what went on, and what still waits.
use Rattle.std.specs.Prelude.{◌≡◌, ◌≤◌, ◌<◌, ◌⊎◌, ℕ, ◌+◌, ◌-◌, ◌==◌, Bool, true, false, ◌||◌, nat_le, nat_lt}
use Rattle.std.specs.Prelude.{if◌then◌else◌}
use Rattle.std.specs.Prelude.{List, [], ◌∷◌, ◌++◌, Option, None, Some, filter, length, slice_get, slice_index, count_by}
use Rattle.std.specs.List.{AllByRecursion}
use Rattle.live_link.specs.declared.packet.Packet.{Packet}
use Rattle.fleet_link.specs.Traffic.{ReceivedPacket}
use Rattle.fleet_wire.specs.declared.lane.Held.{Held}
use Rattle.fleet_wire.specs.declared.lane.Lane.{Lane}
use Rattle.fleet_wire.specs.declared.lane.Log.{Log, Begun, Came', Went'}
use Rattle.fleet_wire.specs.declared.plan.Direction.{Direction}
use Rattle.fleet_wire.specs.declared.plan.Fate.{Fate}
use Rattle.fleet_wire.specs.declared.plan.Fate.TheVariants.{Late, Lost, Passes, Swapped, Twice}
use Rattle.fleet_wire.specs.declared.plan.Plan.{Plan}
use Rattle.fleet_wire.specs.Schedule.{copies, fate_of, goes_at_once}

-- ---- what came and went

-- what is of one device, as another sees it
abbrev pub of_device : {X : Type 0} → ℕ → ℕ → X → List X
of_device device e x = if device == e then x ∷ [] else []

-- a datagram that went on: its place among those of its device that came, the second, and what it was
pub record ForwardedPacket : Type 0 where
  pub place : ℕ
  pub second : ℕ
  pub packet : Packet

-- what came of a device, in order, each with its second
abbrev pub came_by : Log → ℕ → List ReceivedPacket
came_by Begun e = []
came_by (Came' at before device second packet) e =
    came_by before e ++ of_device device.value e (record { second = second.value; packet = packet.value })
came_by (Went' at before device place second packet) e = came_by before e

-- what went on of a device, in order
abbrev pub went_by : Log → ℕ → List ForwardedPacket
went_by Begun e = []
went_by (Came' at before device second packet) e = went_by before e
went_by (Went' at before device place second packet) e =
    went_by before e
    ++ of_device device.value e
    (record { place = place.value; second = second.value; packet = packet.value })

-- what a datagram that goes on at this second adds, if one does
abbrev pub gone_with : ℕ → Option Held → ℕ → List ForwardedPacket
gone_with second None e = []
gone_with second (Some h) e =
    of_device h.device e (record { place = h.place; second = second; packet = h.packet })

-- what is held of a device
abbrev pub held_by : ℕ → List Held → List Held
held_by e held = filter (λ h. h.device == e) held

-- ---- what is to go on

-- the device whose swapped datagrams go next
abbrev pub is_freed : Option ℕ → ℕ → Bool
is_freed None e = false
is_freed (Some device) e = device == e

-- this many seconds have passed from one to another
abbrev pub is_over : ℕ → ℕ → ℕ → Bool
is_over late_by came second = nat_le late_by (second - came)

abbrev pub is_due : Fate → Bool → Bool → Bool
is_due Lost freed over = false
is_due Twice freed over = true
is_due Swapped freed over = freed || over
is_due Late freed over = over
is_due Passes freed over = true

-- a datagram that is held is to go on at this second
abbrev pub is_wanted : Option ℕ → ℕ → ℕ → Held → Bool
is_wanted free late_by second h = is_due h.fate (is_freed free h.device) (is_over late_by h.second second)

-- with one more: what goes on at once stands before all others, and what waits after them
abbrev pub held_with : Fate → Held → List Held → List Held
held_with Lost h held = held
held_with Twice h held = h ∷ h ∷ held
held_with Swapped h held = held ++ h ∷ []
held_with Late h held = held ++ h ∷ []
held_with Passes h held = h ∷ held

-- what goes on at once stands before all others
abbrev pub AreInOrder : List Held → Type 0
AreInOrder [] = Unit {0}
AreInOrder (h ∷ held) =
    AreInOrder held × (goes_at_once h.fate ≡ false → AllByRecursion (λ x. goes_at_once x.fate ≡ false) held)

-- h is the first that passes this test, and these are the others
pub record IsFirst (test : Held → Bool) (all : List Held) (h : Held) (others : List Held) : Type 0 where
  pub front : List Held
  pub back : List Held
  pub all_is : all ≡ front ++ h ∷ back
  pub others_is : others ≡ front ++ back
  pub passes : test h ≡ true
  pub none : AllByRecursion (λ x. test x ≡ false) front

-- ---- one device

-- What went on is one of the datagrams that came, the same, and not earlier; one that is late, only after its seconds.
pub record IsGone (fate : ℕ → Fate) (late_by : ℕ) (came : List ReceivedPacket) (w : ForwardedPacket) : Type 0 where
  pub heard : ReceivedPacket
  pub is : slice_get came w.place ≡ Some heard
  pub same : w.packet ≡ heard.packet
  pub later : heard.second ≤ w.second
  pub late : fate w.place ≡ Late → heard.second + late_by ≤ w.second

-- it went on after its seconds
pub record IsOver (late_by : ℕ) (came : List ReceivedPacket) (w : ForwardedPacket) : Type 0 where
  pub heard : ReceivedPacket
  pub is : slice_get came w.place ≡ Some heard
  pub over : heard.second + late_by ≤ w.second

-- The one that went on as number k went after the next datagram, of those that came after it, that goes on at once:
-- no other one of these went in between.
pub record IsRightAfter (fate : ℕ → Fate) (went : List ForwardedPacket) (k : ℕ) (w : ForwardedPacket) : Type 0 where
  pub next : ForwardedPacket
  pub at : ℕ
  pub before : at < k
  pub is : slice_get went at ≡ Some next
  pub at_once : goes_at_once (fate next.place) ≡ true
  pub after : w.place < next.place
  pub alone : (j : ℕ) (v : ForwardedPacket) → j < k → slice_get went j ≡ Some v → goes_at_once (fate v.place) ≡ true
      → w.place < v.place → v.place ≡ next.place

-- What is held is one of those that came. If it goes on at once, it came last. If it waits for the next one, none that
-- goes on at once has come after it, unless that came last and it goes now.
pub record IsHeld (fate : ℕ → Fate) (now : ℕ) (came : List ReceivedPacket) (freed : Bool) (h : Held) : Type 0 where
  pub heard : ReceivedPacket
  pub is : slice_get came h.place ≡ Some heard
  pub same : h.packet ≡ heard.packet
  pub second : h.second ≡ heard.second
  pub until : h.second ≤ now
  pub fate_is : h.fate ≡ fate h.place
  pub last : goes_at_once h.fate ≡ true → h.place + 1 ≡ length came
  pub waits : h.fate ≡ Swapped → (q : ℕ) → h.place < q → q < length came → goes_at_once (fate q) ≡ true
      → (q + 1 ≡ length came) × (freed ≡ true)

-- the datagram that came last goes on at once
pub record IsAtOnce (fate : ℕ → Fate) (came : List ReceivedPacket) : Type 0 where
  pub place : ℕ
  pub last : place + 1 ≡ length came
  pub at_once : goes_at_once (fate place) ≡ true

-- Of the datagrams that came, each with a fate by its place, these went on, and these are held.
pub record IsLane (fate : ℕ → Fate) (late_by now : ℕ) (came : List ReceivedPacket) (went : List ForwardedPacket)
    (held : List Held)
    (freed : Bool) : Type 0 where
  pub gone : (k : ℕ) (w : ForwardedPacket) → slice_get went k ≡ Some w → IsGone fate late_by came w
  pub often : (i : ℕ) → i < length came
      → count_by (λ w. w.place == i) went + count_by (λ h. h.place == i) held ≡ copies (fate i)
  pub ordered : (j k : ℕ) (v w : ForwardedPacket) → j < k → slice_get went j ≡ Some v → slice_get went k ≡ Some w
      → goes_at_once (fate v.place) ≡ true → goes_at_once (fate w.place) ≡ true → v.place ≤ w.place
  pub swapped : (k : ℕ) (w : ForwardedPacket) → slice_get went k ≡ Some w → fate w.place ≡ Swapped
      → IsOver late_by came w ⊎ IsRightAfter fate went k w
  pub waiting : AllByRecursion (IsHeld fate now came freed) held
  pub last : freed ≡ true → IsAtOnce fate came

-- ---- all devices

-- what happens to the datagram at a place: those of a device that the wire does not know are lost
abbrev pub fate_at : Plan → Direction → ℕ → ℕ → ℕ → Fate
fate_at plan direction devices e place =
    if nat_lt e devices then fate_of plan direction e (place + 1) else Lost

-- so it is for each device, by the fates of the plan
pub record AreLanes (plan : Plan) (direction : Direction) (devices now : ℕ) (lane : Lane) : Type 0 where
  pub direction_is : lane.direction ≡ direction
  pub count : length lane.counts.items ≡ devices
  pub counts : (e : ℕ) → e < devices → slice_index lane.counts.items e ≡ length (came_by lane.log e)
  pub each : (e : ℕ) → IsLane (fate_at plan direction devices e) plan.late_by now (came_by lane.log e)
      (went_by lane.log e) (held_by e lane.held.items) (is_freed lane.free e)
  pub in_order : AreInOrder lane.held.items

-- nothing that is held is to go on at this second
abbrev pub IsIdle : ℕ → ℕ → Lane → Type 0
IsIdle late_by second lane = AllByRecursion (λ h. is_wanted lane.free late_by second h ≡ false) lane.held.items
