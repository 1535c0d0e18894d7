-- Each slice before this one says which devices it has.
use Rattle.std.proofs.Common.{All, take}
use Rattle.command_join.specs.Order.{SaysDevices}
use Rattle.command_join.proofs.order.first_without_devices.Given as goal

abbrev pub invariant-loop-slice : goal.invariant-loop-slice
invariant-loop-slice l = All SaysDevices (take l.slice-index l.slices)
