-- What contracts see of a debugger, and what it keeps.
use Rattle.std.specs.Prelude.{◌≡◌, ℕ, ◌<◌, ◌≤◌, List, length, take, replicate, Option, None, Some, slice_get}
use Rattle.std.specs.Prelude.{slice_index}
use Rattle.device_machine.specs.State.{Device}
use Rattle.scenario_image.specs.Scenario.{Scenario}
use Rattle.trace_file.specs.declared.entry.Entry.{Entry}
use Rattle.fleet_core.specs.Run.{made_by, IsRun}
use Rattle.fleet_core.specs.Board.{ShowsAfter}
use Rattle.debugger.specs.declared.breaks.Break.{Break}
use Rattle.debugger.specs.declared.copies.Copies.{Copies}
use Rattle.device_entries.specs.declared.places.Places.{Places}
use Rattle.debugger.specs.Copies.{AreCopied}
use Rattle.device_entries.specs.Places.{ArePlaced}

-- what contracts see of a debugger: the scenario, the run, the place in it, the breakpoints (that of number i + 1, or
-- none, is at i), and how many steps devices made in the last move by a number of entries
pub record Session : Type 0 where
  pub scenario : Scenario
  pub entries : List Entry
  pub place : ℕ
  pub breaks : List (Option Break)
  pub replayed : ℕ

-- how many breakpoints there may be
abbrev pub most_breaks : ℕ
most_breaks = 64

-- the entries are a run, and the place is in it
pub record IsSession (v : Session) : Type 0 where
  pub run : IsRun v.scenario v.entries
  pub within : v.place ≤ length v.entries
  pub slots : length v.breaks ≡ most_breaks

-- before the first entry, with no breakpoint
abbrev pub new_session : Scenario → List Entry → Session
new_session s es =
    record { scenario = s; entries = es; place = 0; breaks = replicate most_breaks None; replayed = 0 }

-- the same at another place
abbrev pub at_place : Session → ℕ → Session
at_place v n = record v { place = n }

-- the same with other breakpoints
abbrev pub with_breaks : Session → List (Option Break) → Session
with_breaks v breaks = record v { breaks = breaks }

-- the same with another number of steps
abbrev pub with_replayed : Session → ℕ → Session
with_replayed v n = record v { replayed = n }

-- each device is in the state after this many steps of its row
pub record AreAt (s : Scenario) (made : List ℕ) (devices : List Device) : Type 0 where
  pub each : (d : ℕ) (x : Device) → slice_get devices d ≡ Some x → ShowsAfter s d (slice_index made d) x

-- a count for each row, of its entries among these
pub record AreCounted (s : Scenario) (es : List Entry) (made : List ℕ) : Type 0 where
  pub rows : length made ≡ length s.rows
  pub is : (d : ℕ) → d < length s.rows → slice_index made d ≡ made_by d es

-- the fields of a debugger, but for the scenario, the run and the count of steps: the place, how many entries each
-- device has before it, the devices, the breakpoints, copies of the devices along their entries, and where in the run
-- these entries are
pub record Fields : Type 0 where
  pub place : ℕ
  pub made : List ℕ
  pub devices : List Device
  pub breaks : List (Option Break)
  pub copies : List Copies
  pub places : List Places

-- what a debugger keeps: a run, a place in it, and for each row its device in the state after the steps that it has
-- among the entries before the place, with copies of it and the places of its entries
pub record IsDebugger (s : Scenario) (es : List Entry) (f : Fields) : Type 0 where
  pub run : IsRun s es
  pub within : f.place ≤ length es
  pub slots : length f.breaks ≡ most_breaks
  pub counted : AreCounted s (take f.place es) f.made
  pub count : length f.devices ≡ length s.rows
  pub shown : AreAt s f.made f.devices
  pub copied : AreCopied s es f.copies
  pub listed : length f.places ≡ length s.rows
  pub placed : ArePlaced es (length es) f.places
