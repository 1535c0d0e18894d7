-- The lists are as long, and the same as far as they were looked at.
use Rattle.std.proofs.Common.{◌≡◌, length, take}
use Rattle.fleet_core.proofs.same.same_outputs.Given as goal

abbrev pub invariant-loop-i : goal.invariant-loop-i
invariant-loop-i l = record { long : length l.a ≡ length l.b; same : take l.i l.a ≡ take l.i l.b }
