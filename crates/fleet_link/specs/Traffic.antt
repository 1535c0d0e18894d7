-- What goes through the ports of a fleet, device by device, and what calls add to that.
use Rattle.std.specs.Prelude.{◌≡◌, ℕ, ◌+◌, ◌==◌, List, [], ◌∷◌, ◌++◌, Option, Result, Ok, Err}
use Rattle.std.specs.Prelude.{if◌then◌else◌}
use Rattle.live_link.specs.declared.packet.Packet.{Packet}
use Rattle.live_link.specs.Wire.{WhereTold}
use Rattle.fleet_link.specs.declared.ports.PortsFault.{PortsFault}
use Rattle.fleet_link.specs.declared.ports.Receipt.{Receipt}
use Rattle.fleet_link.specs.declared.ports.Receipt.TheVariants.{Arrived, Dropped, Failed, Nothing}

-- a datagram, and the second of the session at which it was received
pub record ReceivedPacket : Type 0 where
  pub second : ℕ
  pub packet : Packet

-- what went through the port of a device: what was handed out to it, and what was sent for it, each in order; and how
-- often the port failed
pub record Traffic : Type 0 where
  pub handed : List ReceivedPacket
  pub sent : List Packet
  pub failures : ℕ

abbrev pub no_traffic : Traffic
no_traffic = record { handed = []; sent = []; failures = 0 }

-- the one, and then the other
abbrev pub traffic_and : Traffic → Traffic → Traffic
traffic_and a b =
    record { handed = a.handed ++ b.handed; sent = a.sent ++ b.sent; failures = a.failures + b.failures }

-- so much more went through a port that told this before and after
abbrev pub Carries : Option Traffic → Option Traffic → Traffic → Type 0
Carries before after more = WhereTold (λ old new. new ≡ traffic_and old more) before after

-- a datagram was handed out at this second
abbrev pub handed_at : ℕ → Packet → Traffic
handed_at second packet =
    record { handed = record { second = second; packet = packet } ∷ []; sent = []; failures = 0 }

-- these were sent
abbrev pub sent_all : List Packet → Traffic
sent_all packets = record { handed = []; sent = packets; failures = 0 }

-- the port failed
abbrev pub failed_once : Traffic
failed_once = record { handed = []; sent = []; failures = 1 }

-- it went through the port of the first device: this is the part of the second one
abbrev pub at_port : ℕ → ℕ → Traffic → Traffic
at_port device e traffic = if device == e then traffic else no_traffic

-- what a call of `receive` at this second adds to the traffic of device e
abbrev pub traffic_of_receipt : ℕ → Result Receipt PortsFault → ℕ → Traffic
traffic_of_receipt second (Ok Nothing) e = no_traffic
traffic_of_receipt second (Ok (Arrived arrival)) e = at_port arrival.device e (handed_at second arrival.packet)
traffic_of_receipt second (Ok Dropped) e = no_traffic
traffic_of_receipt second (Ok (Failed device)) e = at_port device e failed_once
traffic_of_receipt second (Err fault) e = no_traffic
