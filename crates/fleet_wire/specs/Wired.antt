-- What a wire on ports over UDP shows.
use Rattle.std.specs.Prelude.{ℕ}
use Rattle.fleet_link.specs.Counting.{traffic_by}
use Rattle.fleet_link.specs.Traffic.{Traffic}
use Rattle.fleet_link.specs.Udp.{fixed_over_udp}
use Rattle.fleet_wire.specs.declared.wired.WiredPorts.{WiredPorts}
use Rattle.fleet_wire.specs.Noting.{taken_in}
use Rattle.fleet_wire.specs.Over.{FixedWire}

abbrev pub fixed_on : WiredPorts → FixedWire
fixed_on wired =
    record {
      plan = wired.lossy.wire.plan;
      devices = wired.devices;
      taken = taken_in wired.lossy.wire.taken;
      servers = fixed_over_udp wired.lossy.ports;
    }

-- what the ports below the wire carried
abbrev pub carried_under : WiredPorts → ℕ → Traffic
carried_under wired e = traffic_by wired.lossy.ports.tally.calls e
