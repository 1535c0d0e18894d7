-- The part has all classes, and the rows of the devices so far.
use Rattle.std.proofs.Common.{◌≡◌, length}
use Rattle.command_fleet.specs.Devices.{count_of}
use Rattle.command_fleet.proofs.Parts.{AreRows}
use Rattle.command_fleet.proofs.devices.part_of.Given as goal

abbrev pub invariant-loop-place : goal.invariant-loop-place
invariant-loop-place l = record {
  classes : l.part.classes ≡ l.scenario.classes;
  count : length l.part.rows ≡ l.place;
  each : AreRows l.scenario.rows l.devices (count_of l.devices) l.played l.place l.part.rows;
}
