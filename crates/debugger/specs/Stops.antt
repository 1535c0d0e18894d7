-- The places of a run at which a breakpoint holds, and the next stop.
use Rattle.std.specs.Prelude.{◌≡◌, ℕ, ◌+◌, ◌-◌, ◌<◌, ◌≤◌, ◌==◌, ◌&&◌, nat_lt, Bool, true, false, List, length, take}
use Rattle.std.specs.Prelude.{Option, None, Some, slice_get, slice_index}
use Rattle.std.specs.List.{list_any}
use Rattle.lwm2m_values.specs.declared.value.Value.{Value}
use Rattle.device_machine.specs.declared.output.Output.{Output}
use Rattle.device_machine.specs.declared.output.Output.TheVariants as outputs
use Rattle.device_machine.specs.declared.event.Event.{Event as EventData}
use Rattle.device_machine.specs.declared.event.Event.TheVariants as events
use Rattle.scenario_image.specs.declared.step.Step.{Step}
use Rattle.scenario_image.specs.declared.step.Step.TheVariants as steps
use Rattle.scenario_image.specs.Scenario.{Scenario}
use Rattle.trace_file.specs.declared.entry.Entry.{Entry}
use Rattle.fleet_core.specs.Run.{made_by, step_at}
use Rattle.debugger.specs.declared.breaks.Break.{Break}
use Rattle.debugger.specs.declared.breaks.Break.TheVariants as breaks
use Rattle.debugger.specs.declared.breaks.Stop.{Stop}
use Rattle.debugger.specs.declared.breaks.Stop.TheVariants as stops
use Rattle.debugger.specs.Shown.{value_shown}
use Rattle.debugger.specs.Session.{Session}

-- ---- what an entry does

-- a datagram is sent
abbrev pub is_send : Output → Bool
is_send (outputs.Send server bytes) = true
is_send (outputs.Act a) = false

-- a datagram of this code is sent: the code is the second byte (RFC 7252 section 3)
abbrev pub has_code : ℕ → Output → Bool
has_code code (outputs.Send server bytes) = nat_lt 1 (length bytes) && (slice_index bytes 1 == code)
has_code code (outputs.Act a) = false

abbrev pub is_tick_event : EventData → Bool
is_tick_event (events.Recv server bytes) = false
is_tick_event (events.Put path value) = false
is_tick_event (events.Firmware code) = false
is_tick_event (events.Tick seconds) = true

abbrev pub is_tick_step : Step → Bool
is_tick_step (steps.Event event) = is_tick_event event
is_tick_step (steps.Post group) = false
is_tick_step (steps.Need group count) = false

-- the step is there, and lets seconds pass
abbrev pub is_tick : Option Step → Bool
is_tick None = false
is_tick (Some step) = is_tick_step step

-- ---- where a breakpoint holds

-- the entry just before the place is this one, and is the device's
pub record Follows (es : List Entry) (d p : ℕ) (e : Entry) : Type 0 where
  pub index : ℕ
  pub next : p ≡ index + 1
  pub stands : slice_get es index ≡ Some e
  pub own : e.device ≡ d

-- the device has made this many steps with the entry just before the place
abbrev pub HasStepped : List Entry → ℕ → ℕ → ℕ → Type 0
HasStepped es d k p = (e : Entry) × Follows es d p e × (made_by d (take p es) ≡ k)

-- the value at the path is another one than at the place before; to be there and not to be there differ
abbrev pub HasChanged : (ℕ → Option Value) → ℕ → Type 0
HasChanged value p = value (p - 1) ≡ value p → ⊥

-- the device's entry just before the place sends a datagram of this code
abbrev pub HasSent : List Entry → ℕ → ℕ → ℕ → Type 0
HasSent es d code p = (e : Entry) × Follows es d p e × (list_any (has_code code) e.outputs ≡ true)

-- the device's entry just before the place is a tick, and sends a datagram
abbrev pub HasNotified : Scenario → List Entry → ℕ → ℕ → Type 0
HasNotified s es d p =
    (e : Entry) × Follows es d p e × (is_tick (step_at s d e.step) ≡ true) × (list_any is_send e.outputs ≡ true)

-- the breakpoint holds at the place
abbrev pub Holds : Scenario → List Entry → Break → ℕ → Type 0
Holds s es (breaks.At n) p = p ≡ n
Holds s es (breaks.DeviceStep d k) p = HasStepped es d k p
Holds s es (breaks.Changed d path) p = HasChanged (λ n. value_shown s es n d path) p
Holds s es (breaks.Code d code) p = HasSent es d code p
Holds s es (breaks.Notified d) p = HasNotified s es d p

-- the device that the breakpoint is on
abbrev pub device_in : Break → Option ℕ
device_in (breaks.At n) = None
device_in (breaks.DeviceStep d k) = Some d
device_in (breaks.Changed d path) = Some d
device_in (breaks.Code d code) = Some d
device_in (breaks.Notified d) = Some d

-- ---- the next stop

-- no breakpoint that there is holds at the place
abbrev pub IsQuiet : Session → ℕ → Type 0
IsQuiet v p = (slot : ℕ) (b : Break) → slice_get v.breaks slot ≡ Some (Some b) → Holds v.scenario v.entries b p → ⊥

-- the place is the least later one at which a breakpoint holds, and the number is the least of those that hold there
pub record IsBreakStop (v : Session) (id p : ℕ) : Type 0 where
  pub slot : ℕ
  pub point : Break
  pub number : id ≡ slot + 1
  pub stands : slice_get v.breaks slot ≡ Some (Some point)
  pub later : v.place < p
  pub within : p ≤ length v.entries
  pub holds : Holds v.scenario v.entries point p
  pub first : (q : ℕ) → v.place < q → q < p → IsQuiet v q
  pub least : (i : ℕ) (b : Break) → i < slot → slice_get v.breaks i ≡ Some (Some b) → Holds v.scenario v.entries b p → ⊥

-- the place is the end, and no breakpoint holds at a later place than before
pub record IsEndStop (v : Session) (p : ℕ) : Type 0 where
  pub last : p ≡ length v.entries
  pub none : (q : ℕ) → v.place < q → q ≤ length v.entries → IsQuiet v q

-- where and why a resumed debugger stops
abbrev pub IsNextStop : Session → Stop → ℕ → Type 0
IsNextStop v (stops.Break id) p = IsBreakStop v id p
IsNextStop v stops.End p = IsEndStop v p
