-- There is a socket for each row so far, at the port that was asked for if one was.
use Rattle.std.proofs.Common.{◌≡◌, ◌<◌, length}
use Rattle.fleet_link.specs.Udp.{AreFrom}
use Rattle.fleet_link.proofs.udp.open_doors.Given as goal

abbrev pub invariant-loop-place : goal.invariant-loop-place
invariant-loop-place g l = record {
  doors : length l.doors.items ≡ l.place;
  ports : length l.numbers.items ≡ l.place;
  from : 0 < l.port → AreFrom l.port l.numbers.items;
}
