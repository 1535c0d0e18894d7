-- The bytes so far are seen.
use Rattle.std.proofs.Common.{◌≡◌, take}
use Rattle.fleet_link.specs.Counting.{bytes_seen}
use Rattle.fleet_link.proofs.history.seen_bytes.Given as goal

abbrev pub invariant-loop-byte : goal.invariant-loop-byte
invariant-loop-byte l = bytes_seen l.seen ≡ take l.byte-index l.bytes
