use Rattle.std.proofs.Common.{arith}
use Rattle.debugger.proofs.Watching.{is_watched, no_watch_end, no_watch_next}
use Rattle.debugger.proofs.watches.watched_device.Goals as goal

pub loop-watch-init : goal.loop-watch-init
loop-watch-init c = λ k w less. absurd (omega (arith, less))

pub returns-then-watch-device-clause-some : goal.returns-then-watch-device-clause-some
returns-then-watch-device-clause-some c =
    is_watched c.args.watched.now c.loop-watch.watch-index c.args.device c.watch-item.result c.loop-watch-test.true
    c.watch-item.is c.if-watch-device.true

pub loop-watch-preserved : goal.loop-watch-preserved
loop-watch-preserved c =
    no_watch_next c.args.watched.now c.loop-watch.watch-index c.args.device c.watch-item.result c.loop-watch.invariant
    c.loop-watch-test.true c.watch-item.is c.if-watch-device.false

pub returns-clause-none : goal.returns-clause-none
returns-clause-none c =
    no_watch_end c.args.watched.now c.loop-watch.watch-index c.args.device c.loop-watch.invariant
    c.loop-watch-test.false
