-- Why a device handled so what arrived at its latest entry.
use Rattle.std.specs.Prelude.{◌≡◌, ℕ, ◌<◌, ◌≤◌, List, length, Option, None, Some, codes}
use Rattle.device_machine.specs.State.{Machine}
use Rattle.device_machine.specs.declared.event.Event.TheVariants.{Recv, Put, Firmware, Tick}
use Rattle.device_reasons.specs.Reasons.{IsArrivalReason}
use Rattle.device_reasons.specs.Text.{arrival_reason_text}
use Rattle.device_reasons.specs.declared.arrival.ArrivalReason.{ArrivalReason}
use Rattle.scenario_image.specs.declared.step.Step.{Step}
use Rattle.scenario_image.specs.declared.step.Step.TheVariants.{Event, Post, Need}
use Rattle.scenario_words.specs.Words.{ended_line}
use Rattle.debugger.specs.Session.{Session}
use Rattle.debugger.specs.Shown.{before_shown, step_shown}

-- the line says why a device in this flat state handles bytes of a server as it does
abbrev pub IsWhyLine : Machine → ℕ → List ℕ → List ℕ → Type 0
IsWhyLine f server bytes text =
    (reason : ArrivalReason) × IsArrivalReason f server bytes reason
    × (text ≡ ended_line (arrival_reason_text reason))

-- what is answered of a device that made this step, if any, in this flat state
abbrev pub IsWhyOf : Option Step → Option Machine → List ℕ → Type 0
IsWhyOf None before text = text ≡ ended_line (codes "no step")
IsWhyOf (Some (Event (Recv server bytes))) before text =
    (f : Machine) × (before ≡ Some f) × IsWhyLine f server bytes text
IsWhyOf (Some (Event (Put path value))) before text = text ≡ ended_line (codes "no datagram")
IsWhyOf (Some (Event (Firmware code))) before text = text ≡ ended_line (codes "no datagram")
IsWhyOf (Some (Event (Tick seconds))) before text = text ≡ ended_line (codes "no datagram")
IsWhyOf (Some (Post group)) before text = text ≡ ended_line (codes "no datagram")
IsWhyOf (Some (Need group count)) before text = text ≡ ended_line (codes "no datagram")

-- that of the device's latest entry before the place, or `no device` where the scenario has no row for it
pub record IsWhyAnswer (v : Session) (d : ℕ) (text : List ℕ) : Type 0 where
  pub device_there : d < length v.scenario.rows
      → IsWhyOf (step_shown v.scenario v.entries v.place d) (before_shown v.scenario v.entries v.place d) text
  pub no_device : length v.scenario.rows ≤ d → text ≡ ended_line (codes "no device")
