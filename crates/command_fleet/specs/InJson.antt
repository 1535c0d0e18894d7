-- What is printed of a session with `--json`: objects, each in a line of its own.
use Rattle.std.specs.Prelude.{ℕ, List, [], ◌∷◌, ◌++◌, Option, None, Some, codes}
use Rattle.std.specs.Net.Socket.{socket_ip, socket_port}
use Rattle.std.specs.Net.Text.{ip_text}
use Rattle.std.specs.declared.net.socket_addr.SocketAddr.{SocketAddr}
use Rattle.serde_json.specs.Data.{Data, string}
use Rattle.trace_json.specs.Json.{Field, number_json, object_json}
use Rattle.fleet_link.specs.declared.udp.Counts.{Counts}
use Rattle.fleet_wire.specs.declared.happened.Happened.{Happened}
use Rattle.fleet_lines.specs.declared.counted.Account.{Account}
use Rattle.command_fleet.specs.declared.shortfall.Shortfall.{Shortfall}

-- the ports of n devices are there, the first of them at this place
unfoldable pub ready_json : ℕ → SocketAddr → Data
ready_json devices place =
    object_json
    ((codes "version", number_json 1) ∷ (codes "event", string (codes "ready")) ∷ (codes "devices", number_json devices)
    ∷ (codes "address", string (ip_text (socket_ip place))) ∷ (codes "port", number_json (socket_port place)) ∷ [])

-- a device is at a port that the system chose
unfoldable pub port_json : ℕ → ℕ → Data
port_json device port =
    object_json
    ((codes "event", string (codes "port")) ∷ (codes "device", number_json device) ∷ (codes "port", number_json port)
    ∷ [])

-- how many datagrams went through the ports
abbrev pub counts_fields : Counts → List Field
counts_fields counts =
    (codes "received", number_json counts.received) ∷ (codes "sent", number_json counts.sent)
    ∷ (codes "dropped", number_json counts.dropped) ∷ (codes "lost", number_json counts.lost) ∷ []

-- how often a wire did what
abbrev pub wire_fields : Happened → List Field
wire_fields happened =
    (codes "wire_lost", number_json happened.lost) ∷ (codes "wire_twice", number_json happened.twice)
    ∷ (codes "wire_swapped", number_json happened.swapped) ∷ (codes "wire_late", number_json happened.late) ∷ []

-- the same, if there is one
abbrev pub happened_fields : Option Happened → List Field
happened_fields None = []
happened_fields (Some happened) = wire_fields happened

-- this second of the session has come
unfoldable pub second_json : ℕ → Counts → Data
second_json second counts =
    object_json
    ((codes "event", string (codes "second")) ∷ (codes "second", number_json second) ∷ counts_fields counts)

-- the session is over, with this shortfall
unfoldable pub done_json : ℕ → ℕ → Account → Shortfall → Data
done_json seconds devices account shortfall =
    object_json
    ((codes "event", string (codes "done")) ∷ (codes "seconds", number_json seconds)
    ∷ (codes "devices", number_json devices) ∷ counts_fields account.counts ++ happened_fields account.happened
    ++ (codes "ended", number_json shortfall.ended) ∷ (codes "cut", number_json shortfall.cut) ∷ [])
