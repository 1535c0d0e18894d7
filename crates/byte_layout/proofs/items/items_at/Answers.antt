use Rattle.std.proofs.Common.{[]}
use Rattle.std.proofs.lemmas.Result.{err_from_is_err_and}
use Rattle.byte_layout.specs.Layout.{each}
use Rattle.byte_layout.proofs.Loop.{starts, goes_on, ends, is_done}
use Rattle.byte_layout.proofs.items.items_at.Goals as goal

pub loop-init : goal.loop-init
loop-init g c = rw c.new-found.ensures.items (starts (g.I.Items.part c.args.items.now) c.args.count c.args.bytes.now)

pub loop-preserved : goal.loop-preserved
loop-preserved g c =
    let part = g.I.Items.part c.args.items.now in
    rw c.in_ok-push.ensures.items (goes_on part c.loop.found.items c.args.count c.loop.counter c.loop.rest.now
    c.in_ok-item.item c.in_ok-item.after.now
    ((each part c.args.count []).read c.args.bytes.now) c.deref.result.now c.deref.ensures.value
    c.loop-test.true c.in_ok-item.ensures c.loop.invariant)

pub returns-in_err-item : goal.returns-in_err-item
returns-in_err-item g c =
    let part = g.I.Items.part c.args.items.now in
    let p = err_from_is_err_and c.from_residual.result c.from_residual.ensures.1 in
    rw (p.1, p.2) (ends part c.in_err-item.field-0.0 c.loop.found.items c.args.count c.loop.counter c.loop.rest.now
    ((each part c.args.count []).read c.args.bytes.now) c.deref.result.now c.deref.ensures.value c.loop-test.true
    c.in_err-item.ensures c.loop.invariant)

pub returns : goal.returns
returns g c =
    let part = g.I.Items.part c.args.items.now in
    is_done part c.loop.found.items c.args.count c.loop.counter c.loop.rest.now
    ((each part c.args.count []).read c.args.bytes.now) c.loop-test.false c.loop.invariant
