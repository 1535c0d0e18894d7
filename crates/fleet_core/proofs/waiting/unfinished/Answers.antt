use Rattle.fleet_core.specs.Waiting.{is_waiting}
use Rattle.fleet_core.proofs.Counted.{waiting_yes, waiting_no, waits, has_done, count_read}
use Rattle.fleet_core.proofs.waiting.unfinished.Goals as goal

pub loop-device-preserved-then-index-steps_of : goal.loop-device-preserved-then-index-steps_of
loop-device-preserved-then-index-steps_of c =
    waiting_no (is_waiting c.args.scenario.now c.args.entries.now) c.loop-device.device c.loop-device.waiting.items
    c.loop-device.invariant
    (has_done c.args.scenario.now c.args.entries.now c.loop-device.device c.index.result.now c.steps_of.result
    (count_read c.rows-rows.result c.loop-device.device c.index.result.now c.args.entries.now c.in_ok-made.made.items
    c.in_ok-made.ensures.count c.in_ok-made.ensures.made c.loop-device-test.true c.index.ensures)
    c.steps_of.ensures c.if-index-steps_of.true)

pub loop-device-preserved : goal.loop-device-preserved
loop-device-preserved c =
    waiting_yes (is_waiting c.args.scenario.now c.args.entries.now) c.loop-device.device c.loop-device.waiting.items
    c.push.new.self.items c.loop-device.invariant
    (waits c.args.scenario.now c.args.entries.now c.loop-device.device c.index.result.now c.steps_of.result
    (count_read c.rows-rows.result c.loop-device.device c.index.result.now c.args.entries.now c.in_ok-made.made.items
    c.in_ok-made.ensures.count c.in_ok-made.ensures.made c.loop-device-test.true c.index.ensures)
    c.steps_of.ensures c.if-index-steps_of.false)
    c.in_ok-push.ensures.items
