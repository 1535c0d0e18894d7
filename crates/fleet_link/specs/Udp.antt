-- What ports over UDP tell: what they handed out, and what they were given to send; and at which ports they are.
use Rattle.std.specs.Prelude.{◌≡◌, ◌+◌, ◌<◌, ℕ, List, length, slice_get, Option, Some}
use Rattle.fleet_link.specs.declared.directory.FixedServer.{FixedServer}
use Rattle.fleet_link.specs.declared.udp.UdpPorts.{UdpPorts}
use Rattle.fleet_link.specs.Counting.{seconds_by, traffic_by}
use Rattle.fleet_link.specs.Traffic.{Traffic}

-- what went through the port of a device
abbrev pub told_over_udp : UdpPorts → ℕ → Option Traffic
told_over_udp ports e = Some (traffic_by ports.tally.calls e)

-- the seconds at which they were asked
abbrev pub asked_over_udp : UdpPorts → Option (List ℕ)
asked_over_udp ports = Some (seconds_by ports.tally.calls)

-- the servers that are fixed
abbrev pub fixed_over_udp : UdpPorts → List FixedServer
fixed_over_udp ports = ports.servers.items

-- at which port each device is
abbrev pub ports_over_udp : UdpPorts → List ℕ
ports_over_udp ports = ports.numbers.items

-- the first device is at this port, the next one at the one after it, and so on
abbrev pub AreFrom : ℕ → List ℕ → Type 0
AreFrom port ports = (d : ℕ) → d < length ports → slice_get ports d ≡ Some (port + d)
