-- What is written, and what is still to come.
use Rattle.std.proofs.Common.{◌≡◌, ◌++◌, drop}
use Rattle.std.specs.String.{string_bytes}
use Rattle.command_fleet.specs.Fleet.{ports_text}
use Rattle.command_fleet.proofs.placing.put_ports.Given as goal

abbrev pub invariant-loop-device : goal.invariant-loop-device
invariant-loop-device l =
    string_bytes l.out ++ ports_text l.json l.device (drop l.device l.ports)
    ≡ string_bytes l.initial.out ++ ports_text l.json 0 l.ports
