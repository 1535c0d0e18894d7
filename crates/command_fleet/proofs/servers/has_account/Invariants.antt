-- No device before this one has the account.
use Rattle.std.proofs.Common.{◌≡◌, false, take}
use Rattle.std.specs.List.{list_any}
use Rattle.command_fleet.specs.Servers.{row_has}
use Rattle.command_fleet.proofs.servers.has_account.Given as goal

abbrev pub invariant-loop-device : goal.invariant-loop-device
invariant-loop-device l = list_any (row_has l.scenario l.account) (take l.device l.scenario.rows) ≡ false
