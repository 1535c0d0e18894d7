use Rattle.std.proofs.Common.{length}
use Rattle.debugger.proofs.Watching.{no_copies, watching_end, watching_first, watching_more}
use Rattle.debugger.proofs.watches.watch_devices.Goals as goal

pub loop-one-init : goal.loop-one-init
loop-one-init c = record {
  copies = no_copies c.args.devices.now c.new-watched.result.items c.new-watched.ensures.items;
  all = watching_first c.new-watched.result.items (length c.args.devices.now) c.args.points.now;
}

pub loop-one-preserved : goal.loop-one-preserved
loop-one-preserved c = record {
  copies = c.in_ok-watch_point.ensures.copies;
  all = watching_more c.loop-one.watched.items c.watch_point.new.watched.items (length c.args.devices.now)
      c.loop-one.one-index c.args.points.now _ c.loop-one.invariant.all c.loop-one-test.true
      c.in_ok-watch_point.ensures.own c.in_ok-watch_point.ensures.others;
}

pub returns-clause-all : goal.returns-clause-all
returns-clause-all c =
    watching_end c.loop-one.watched.items (length c.args.devices.now) c.loop-one.one-index c.args.points.now
    c.loop-one.invariant.all c.loop-one-test.false
