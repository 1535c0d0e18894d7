use Rattle.std.proofs.Common.{length, sym}
use Rattle.debugger.proofs.Watching.{watching_none, watching_some}
use Rattle.debugger.proofs.watches.watch_point.Goals as goal

pub returns-in-None-clause-own : goal.returns-in-None-clause-own
returns-in-None-clause-own c =
    watching_none c.args.watched.now.items (length c.args.devices.now) c.args.point.now (sym c.in-None.ensures)

pub returns-in_ok-watch_device-in-Some-clause-own : goal.returns-in_ok-watch_device-in-Some-clause-own
returns-in_ok-watch_device-in-Some-clause-own c =
    watching_some c.watch_device.new.watched.items (length c.args.devices.now) c.args.point.now c.in-Some.device _
    (sym c.in-Some.ensures) c.in_ok-watch_device-in-Some.ensures.own
