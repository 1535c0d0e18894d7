-- The datagrams of a trace.
use Rattle.std.specs.Prelude.{ℕ, ◌+◌, Bool, true, false, List, [], ◌∷◌, ◌++◌, Option, None, Some}
use Rattle.std.specs.List.{flat_map}
use Rattle.device_machine.specs.declared.event.Event.TheVariants.{Recv, Put, Firmware, Tick}
use Rattle.device_machine.specs.declared.output.Output.{Output}
use Rattle.device_machine.specs.declared.output.Output.TheVariants.{Send, Act}
use Rattle.scenario_image.specs.declared.step.Step.{Step}
use Rattle.scenario_image.specs.declared.step.Step.TheVariants.{Event, Post, Need}
use Rattle.scenario_image.specs.Scenario.{Scenario}
use Rattle.trace_file.specs.declared.entry.Entry.{Entry}
use Rattle.fleet_core.specs.Run.{step_at}
use Rattle.trace_text.specs.Seconds.{second_at}

-- a datagram between a device and a server: the second of the device's clock, and whether the device receives it or
-- sends it
pub record Transmission : Type 0 where
  pub second : ℕ
  pub device : ℕ
  pub server : ℕ
  pub is_received : Bool
  pub bytes : List ℕ

abbrev pub received_transmission : ℕ → ℕ → ℕ → List ℕ → Transmission
received_transmission second device server bytes =
    record { second = second; device = device; server = server; is_received = true; bytes = bytes }

abbrev pub sent_transmission : ℕ → ℕ → ℕ → List ℕ → Transmission
sent_transmission second device server bytes =
    record { second = second; device = device; server = server; is_received = false; bytes = bytes }

-- what a device receives in a step: a datagram or nothing
abbrev pub arrival : ℕ → ℕ → Option Step → List Transmission
arrival second device None = []
arrival second device (Some (Event (Recv server bytes))) = received_transmission second device server bytes ∷ []
arrival second device (Some (Event (Put path value))) = []
arrival second device (Some (Event (Firmware code))) = []
arrival second device (Some (Event (Tick seconds))) = []
arrival second device (Some (Post group)) = []
arrival second device (Some (Need group count)) = []

-- what it sends by an output: a datagram or nothing
abbrev pub sending : ℕ → ℕ → Output → List Transmission
sending second device (Send server bytes) = sent_transmission second device server bytes ∷ []
sending second device (Act act) = []

-- the second of the device's clock after an entry's step
abbrev pub second_after : Scenario → Entry → ℕ
second_after s e = second_at s e.device (e.step + 1)

-- the datagrams of an entry: first the one that arrives in its step, then those that are sent, in their order
abbrev pub entry_transmissions : Scenario → Entry → List Transmission
entry_transmissions s e =
    arrival (second_after s e) e.device (step_at s e.device e.step)
    ++ flat_map (sending (second_after s e) e.device) e.outputs

-- those of the entries of a trace, in their order
abbrev pub transmissions : Scenario → List Entry → List Transmission
transmissions s es = flat_map (entry_transmissions s) es
