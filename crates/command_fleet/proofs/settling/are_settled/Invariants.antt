-- The devices before this one are settled.
use Rattle.std.proofs.Common.{All, take}
use Rattle.command_fleet.specs.Settling.{IsDeviceSettled}
use Rattle.command_fleet.proofs.settling.are_settled.Given as goal

abbrev pub invariant-loop-slot : goal.invariant-loop-slot
invariant-loop-slot l = All (IsDeviceSettled l.goal l.second) (take l.slot-index l.slots)
