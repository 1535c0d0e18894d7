-- The copy has the classes before this place, and no row.
use Rattle.std.proofs.Common.{◌≡◌, [], take}
use Rattle.command_fleet.proofs.devices.copy_classes.Given as goal

abbrev pub invariant-loop-place : goal.invariant-loop-place
invariant-loop-place l = record { classes : l.copy.classes ≡ take l.place l.scenario.classes; rows : l.copy.rows ≡ [] }
