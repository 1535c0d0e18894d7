use Rattle.std.proofs.Transfers.{starts_with_of_append}
use Rattle.byte_layout.proofs.Appended.{behind}
use Rattle.byte_layout.proofs.Written.{may_write, writes_on, all_written}
use Rattle.byte_layout.proofs.items.put_items.Goals as goal

pub put_item-requires : goal.put_item-requires
put_item-requires g c =
    may_write (g.I.Items.part c.args.items.now) c.args.list.now c.loop-i.i c.index-list-i.result c.requires
    c.loop-i-test.true c.index-list-i.is

pub loop-i-preserved : goal.loop-i-preserved
loop-i-preserved g c =
    writes_on (g.I.Items.part c.args.items.now) c.args.list.now c.loop-i.i c.index-list-i.result c.args.out.now.items
    c.loop-i.out.items c.put_item.new.out.items c.loop-i-test.true c.index-list-i.is c.in_ok-put_item.ensures.ok
    c.loop-i.invariant

pub returns-in_err-put_item-clause-appends : goal.returns-in_err-put_item-clause-appends
returns-in_err-put_item-clause-appends g c =
    behind c.args.out.now.items _ c.loop-i.out.items c.put_item.new.out.items c.loop-i.invariant
    c.in_err-put_item.ensures.appends

pub returns-clause-ok : goal.returns-clause-ok
returns-clause-ok g c = all_written (g.I.Items.part c.args.items.now) c.args.list.now c.loop-i.i c.args.out.now.items
    c.loop-i.out.items c.requires c.loop-i-test.false c.loop-i.invariant

pub returns-clause-appends : goal.returns-clause-appends
returns-clause-appends g c = starts_with_of_append c.loop-i.out.items c.args.out.now.items _ c.loop-i.invariant
