-- None of the slices before this one says which devices it has.
use Rattle.std.proofs.Common.{All, take}
use Rattle.command_join.specs.Order.{SaysNoDevices}
use Rattle.command_join.proofs.order.first_with_devices.Given as goal

abbrev pub invariant-loop-slice : goal.invariant-loop-slice
invariant-loop-slice l = All SaysNoDevices (take l.slice-index l.slices)
