-- How the next stop is searched for, as clauses of private functions name it. No promise rests on it.
use Rattle.std.specs.Prelude.{◌≡◌, ℕ, ◌+◌, ◌-◌, ◌<◌, ◌≤◌, ◌==◌, ◌&&◌, Bool, false, List, length, Option, None, Some}
use Rattle.std.specs.Prelude.{slice_get}
use Rattle.std.specs.List.{list_any}
use Rattle.object_defs.specs.Path.{full_path}
use Rattle.object_defs.specs.declared.path.Path.{Path}
use Rattle.device_machine.specs.State.{Device, value_in}
use Rattle.scenario_image.specs.Scenario.{Scenario}
use Rattle.trace_file.specs.declared.entry.Entry.{Entry}
use Rattle.fleet_core.specs.Run.{made_by, step_at}
use Rattle.fleet_core.specs.Board.{ShowsAfter}
use Rattle.debugger.specs.declared.breaks.Break.{Break}
use Rattle.debugger.specs.declared.breaks.Break.TheVariants as breaks
use Rattle.debugger.specs.declared.breaks.Stop.{Stop}
use Rattle.debugger.specs.declared.breaks.Stop.TheVariants as stops
use Rattle.debugger.specs.declared.points.Numbered.{Numbered}
use Rattle.debugger.specs.declared.watches.Watch.{Watch}
use Rattle.debugger.specs.Shown.{value_shown}
use Rattle.debugger.specs.Stops.{is_send, has_code, is_tick, Holds}

-- it holds at no place after the first, up to the last
abbrev pub IsNowhere : (ℕ → Type 0) → ℕ → ℕ → Type 0
IsNowhere P from to = (q : ℕ) → from < q → q ≤ to → P q → ⊥

-- ---- what a breakpoint asks of the entry before a place

-- the entry at this index of a run makes the breakpoint hold after it; that of a value asks more than the entry
abbrev pub marks : Scenario → Entry → ℕ → Break → Bool
marks s e index (breaks.At n) = n == index + 1
marks s e index (breaks.DeviceStep d k) = (e.device == d) && (e.step + 1 == k)
marks s e index (breaks.Changed d path) = false
marks s e index (breaks.Code d code) = (e.device == d) && list_any (has_code code) e.outputs
marks s e index (breaks.Notified d) = (e.device == d) && is_tick (step_at s d e.step) && list_any is_send e.outputs

-- the device and the path of a breakpoint that is that of a value
abbrev pub change_in : Break → Option (ℕ × Path)
change_in (breaks.At n) = None
change_in (breaks.DeviceStep d k) = None
change_in (breaks.Changed d path) = Some (d, path)
change_in (breaks.Code d code) = None
change_in (breaks.Notified d) = None

-- ---- the breakpoints that there are

-- a breakpoint that there is, with its number, in one of the first slots
pub record IsSet (slots : List (Option Break)) (first : ℕ) (p : Numbered) : Type 0 where
  pub slot : ℕ
  pub number : p.number ≡ slot + 1
  pub below : slot < first
  pub stands : slice_get slots slot ≡ Some (Some p.point)

-- the breakpoint of this slot is one of these, with its number
pub record IsListed (points : List Numbered) (slot : ℕ) (b : Break) : Type 0 where
  pub index : ℕ
  pub one : Numbered
  pub stands : slice_get points index ≡ Some one
  pub number : one.number ≡ slot + 1
  pub point : one.point ≡ b

-- these are the breakpoints that there are in the first slots, in the order of their numbers
pub record AreSet (slots : List (Option Break)) (first : ℕ) (points : List Numbered) : Type 0 where
  pub each : (k : ℕ) (p : Numbered) → slice_get points k ≡ Some p → IsSet slots first p
  pub all : (slot : ℕ) (b : Break) → slot < first → slice_get slots slot ≡ Some (Some b) → IsListed points slot b
  pub rise : (j k : ℕ) (p q : Numbered) → j < k → slice_get points j ≡ Some p → slice_get points k ≡ Some q
      → p.number < q.number

-- ---- the devices whose values they watch

-- one of these is a copy of the row's device
pub record HasWatch (watched : List Watch) (d : ℕ) : Type 0 where
  pub index : ℕ
  pub one : Watch
  pub stands : slice_get watched index ≡ Some one
  pub own : one.device ≡ d

-- none of the first ones is
abbrev pub HasNoWatch : List Watch → ℕ → ℕ → Type 0
HasNoWatch watched count d = (k : ℕ) (w : Watch) → k < count → slice_get watched k ≡ Some w → w.device ≡ d → ⊥

-- one of these is this copy of the row's device
pub record IsWatched (watched : List Watch) (d : ℕ) (x : Device) : Type 0 where
  pub index : ℕ
  pub one : Watch
  pub stands : slice_get watched index ≡ Some one
  pub own : one.device ≡ d
  pub is : one.machine ≡ x

-- each is a copy of its row's device
pub record AreCopiesOf (devices : List Device) (watched : List Watch) : Type 0 where
  pub each : (k : ℕ) (w : Watch) → slice_get watched k ≡ Some w → slice_get devices w.device ≡ Some w.machine

-- each has made as many steps as its row's device has entries among these
pub record AreWatched (s : Scenario) (es : List Entry) (watched : List Watch) : Type 0 where
  pub each : (k : ℕ) (w : Watch) → slice_get watched k ≡ Some w → ShowsAfter s w.device (made_by w.device es) w.machine

-- if the breakpoint is that of a value of one of the rows, there is a copy of the row's device
abbrev pub IsWatching : List Watch → ℕ → Break → Type 0
IsWatching watched rows b = (d : ℕ) (path : Path) → change_in b ≡ Some (d, path) → d < rows → HasWatch watched d

-- so for the first of these
pub record AreWatching (watched : List Watch) (rows count : ℕ) (points : List Numbered) : Type 0 where
  pub each : (k : ℕ) (p : Numbered) → k < count → slice_get points k ≡ Some p → IsWatching watched rows p.point

-- ---- the values that they watch

-- the value of the row's device at the path differs from that of a copy
pub record IsChanged (devices : List Device) (watched : List Watch) (d : ℕ) (path : Path) : Type 0 where
  pub before : Device
  pub after : Device
  pub stands : slice_get devices d ≡ Some before
  pub watch : IsWatched watched d after
  pub differs : value_in before.flat.kept (full_path path) ≡ value_in after.flat.kept (full_path path) → ⊥

-- the value of this device at the path is that of a copy
pub record IsUnchanged (before : Device) (watched : List Watch) (d : ℕ) (path : Path) : Type 0 where
  pub after : Device
  pub watch : IsWatched watched d after
  pub same : value_in before.flat.kept (full_path path) ≡ value_in after.flat.kept (full_path path)

-- at this place the value at the path is that of the row's device among these
abbrev pub IsStillAt : Scenario → List Entry → List Device → ℕ → ℕ → Path → Type 0
IsStillAt s es devices n d path =
    (x : Device) → slice_get devices d ≡ Some x → value_shown s es n d path ≡ value_in x.flat.kept (full_path path)

-- so for the value that the breakpoint watches, if it watches one
abbrev pub IsStill : Scenario → List Entry → List Device → ℕ → Break → Type 0
IsStill s es devices n b =
    (d : ℕ) (path : Path) → change_in b ≡ Some (d, path) → IsStillAt s es devices n d path

-- so for each of these
pub record AreStill (s : Scenario) (es : List Entry) (devices : List Device) (n : ℕ) (points : List Numbered)
    : Type 0 where
  pub each : (k : ℕ) (p : Numbered) → slice_get points k ≡ Some p → IsStill s es devices n p.point

-- ---- where they hold

-- at this place the first of these do not hold
abbrev pub AreSilent : Scenario → List Entry → ℕ → ℕ → List Numbered → Type 0
AreSilent s es p count points =
    (k : ℕ) (q : Numbered) → k < count → slice_get points k ≡ Some q → Holds s es q.point p → ⊥

-- the first of these that holds at this place has this number
pub record IsHeld (s : Scenario) (es : List Entry) (points : List Numbered) (p id : ℕ) : Type 0 where
  pub index : ℕ
  pub one : Numbered
  pub stands : slice_get points index ≡ Some one
  pub number : id ≡ one.number
  pub holds : Holds s es one.point p
  pub silent : AreSilent s es p index points

-- none of these holds at a place after the first, up to the last
abbrev pub AreNowhere : Scenario → List Entry → List Numbered → ℕ → ℕ → Type 0
AreNowhere s es points from to =
    (k : ℕ) (q : Numbered) → slice_get points k ≡ Some q → IsNowhere (Holds s es q.point) from to

-- the place is the first later one at which one of these holds, the first of them of this number
pub record IsHeldFirst (s : Scenario) (es : List Entry) (points : List Numbered) (from p id : ℕ) : Type 0 where
  pub later : from < p
  pub within : p ≤ length es
  pub held : IsHeld s es points p id
  pub before : AreNowhere s es points from (p - 1)

-- the place is the end, and none of these holds at a later one
pub record IsHeldNowhere (s : Scenario) (es : List Entry) (points : List Numbered) (from p : ℕ) : Type 0 where
  pub last : p ≡ length es
  pub before : AreNowhere s es points from p

-- the stop by these
abbrev pub IsStopBy : Scenario → List Entry → List Numbered → ℕ → Stop → ℕ → Type 0
IsStopBy s es points from (stops.Break id) p = IsHeldFirst s es points from p id
IsStopBy s es points from stops.End p = IsHeldNowhere s es points from p
