-- There is a started device for each row before this one.
use Rattle.fleet_core.proofs.Started.{AreFirst}
use Rattle.fleet_core.proofs.performing.start_devices.Given as goal

abbrev pub invariant-loop-device : goal.invariant-loop-device
invariant-loop-device l = AreFirst l.scenario l.device l.devices.items
