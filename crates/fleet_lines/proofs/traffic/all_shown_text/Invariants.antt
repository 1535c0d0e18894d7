use Rattle.std.proofs.Common.{◌≡◌, take}
use Rattle.std.specs.List.{flat_map}
use Rattle.std.specs.String.{string_bytes}
use Rattle.fleet_lines.specs.Traffic.{shown_text}
use Rattle.fleet_lines.proofs.traffic.all_shown_text.Given as goal

abbrev pub invariant-loop-datagram : goal.invariant-loop-datagram
invariant-loop-datagram l = string_bytes l.text ≡ flat_map (shown_text l.json) (take l.datagram-index l.shown)
