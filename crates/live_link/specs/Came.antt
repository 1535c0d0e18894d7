-- What steps are made of: the datagrams that were received, and the seconds that passed.
use Rattle.std.specs.Prelude.{ℕ, List, Option, None, Some}
use Rattle.std.specs.List.{filter_map}
use Rattle.device_machine.specs.declared.event.Event.TheVariants.{Recv, Put, Firmware, Tick}
use Rattle.scenario_image.specs.declared.step.Step.{Step}
use Rattle.scenario_image.specs.declared.step.Step.TheVariants.{Event, Post, Need}
use Rattle.live_link.specs.declared.packet.Packet.{Packet}

-- what calls of `receive` handed out, in order
abbrev pub handed_by : List (Option Packet) → List Packet
handed_by received = filter_map (λ r. r) received

-- the datagram that a step receives
abbrev pub heard_in : Step → Option Packet
heard_in (Event (Recv server bytes)) = Some (record { server = server; bytes = bytes })
heard_in (Event (Put path value)) = None
heard_in (Event (Firmware code)) = None
heard_in (Event (Tick seconds)) = None
heard_in (Post group) = None
heard_in (Need group count) = None

-- the datagrams that steps receive, in order
abbrev pub heard_by : List Step → List Packet
heard_by steps = filter_map heard_in steps

-- the seconds that pass in a step that is a tick
abbrev pub tick_in : Step → Option ℕ
tick_in (Event (Recv server bytes)) = None
tick_in (Event (Put path value)) = None
tick_in (Event (Firmware code)) = None
tick_in (Event (Tick seconds)) = Some seconds
tick_in (Post group) = None
tick_in (Need group count) = None

-- the seconds of the ticks among steps, in order
abbrev pub ticks_of : List Step → List ℕ
ticks_of steps = filter_map tick_in steps
