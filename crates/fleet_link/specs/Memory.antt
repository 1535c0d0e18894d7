-- What ports in memory do, by their script, and what they tell.
use Rattle.std.specs.Prelude.{ℕ, ◌==◌, List, [], ◌∷◌, ◌++◌, Option, None, Some, Result, Ok, if◌then◌else◌}
use Rattle.std.specs.List.{filter_map}
use Rattle.std.specs.Vec.Iter.{into_iter_items}
use Rattle.live_link.specs.declared.packet.Packet.{Packet}
use Rattle.fleet_link.specs.declared.memory.Calls.{Calls, Begun, Received'}
use Rattle.fleet_link.specs.declared.memory.ScriptedPorts.{ScriptedPorts}
use Rattle.fleet_link.specs.declared.memory.Sending.{Sending}
use Rattle.fleet_link.specs.declared.ports.PortsFault.{PortsFault}
use Rattle.fleet_link.specs.declared.ports.Receipt.{Receipt}
use Rattle.fleet_link.specs.declared.ports.Receipt.TheVariants.{Nothing}
use Rattle.fleet_link.specs.Traffic.{Traffic, no_traffic, traffic_and, traffic_of_receipt}

-- ---- what they tell

-- what calls of `receive` gave to a device
abbrev pub received_by : Calls → ℕ → Traffic
received_by Begun e = no_traffic
received_by (Received' at before second given) e =
    traffic_and (received_by before e) (traffic_of_receipt second.value given.value e)

-- the seconds at which they were asked
abbrev pub seconds_by : Calls → List ℕ
seconds_by Begun = []
seconds_by (Received' at before second given) = seconds_by before ++ second.value ∷ []

-- the datagram that this device sent, if it was this one
abbrev pub sent_if : ℕ → Sending → Option Packet
sent_if e sending = if sending.device == e then Some sending.packet else None

-- the datagrams that a device sent, in order
abbrev pub sent_in : List Sending → ℕ → List Packet
sent_in sendings e = filter_map (sent_if e) sendings

-- what ports tell of a device
abbrev pub told_by : ScriptedPorts → ℕ → Option Traffic
told_by ports e =
    if ports.whole
    then Some (record {
      handed = (received_by ports.calls e).handed;
      sent = sent_in ports.sent.items e;
      failures = (received_by ports.calls e).failures;
    })
    else None

abbrev pub asked_by : ScriptedPorts → Option (List ℕ)
asked_by ports = Some (seconds_by ports.calls)

-- ---- what they do

-- what is left of the script: what the next calls of `receive` give
abbrev pub script_of : ScriptedPorts → List (Result Receipt PortsFault)
script_of ports = into_iter_items ports.script

-- what the next call of `receive` gives; after the last item, nothing has arrived
abbrev pub given_first : List (Result Receipt PortsFault) → Result Receipt PortsFault
given_first [] = Ok Nothing
given_first (given ∷ rest) = given
