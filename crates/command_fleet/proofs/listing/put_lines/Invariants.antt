-- What is written, and what is still to come.
use Rattle.std.proofs.Common.{◌≡◌, ◌++◌, drop}
use Rattle.std.specs.String.{string_bytes}
use Rattle.command_fleet.specs.Listing.{listed_text}
use Rattle.command_fleet.proofs.listing.put_lines.Given as goal

abbrev pub invariant-loop-device : goal.invariant-loop-device
invariant-loop-device l =
    string_bytes l.out ++ listed_text l.device (drop l.device l.ports)
    ≡ string_bytes l.initial.out ++ listed_text 0 l.ports
