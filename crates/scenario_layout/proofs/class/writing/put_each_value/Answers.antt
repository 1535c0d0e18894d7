use Rattle.std.proofs.Common.{take}
use Rattle.std.proofs.Transfers.{starts_with_of_append}
use Rattle.byte_layout.proofs.Appended.{behind}
use Rattle.instance_store.specs.Listing.{shown_pairs}
use Rattle.device_template.specs.Template.{empty_class}
use Rattle.scenario_layout.specs.Class.{entry}
use Rattle.scenario_layout.proofs.Shown.{shown_good, shown_on, shown_all}
use Rattle.scenario_layout.proofs.class.writing.put_each_value.Goals as goal

pub put_entry-requires : goal.put_entry-requires
put_entry-requires c =
    shown_good c.args.list.now c.loop-path.path-index c.loop-path-item.result c.requires c.loop-path-test.true
    c.loop-path-item.is

pub loop-path-preserved : goal.loop-path-preserved
loop-path-preserved c =
    λ k. shown_on (entry k) c.args.list.now c.loop-path.path-index c.loop-path-item.result c.args.out.now.items
    c.loop-path.out.items c.put_entry.new.out.items c.loop-path-test.true c.loop-path-item.is
    (c.in_ok-put_entry.ensures.ok k (shown_pairs (take c.loop-path.path-index c.args.list.now)))
    (c.loop-path.invariant k)

pub returns-in_err-put_entry-clause-appends : goal.returns-in_err-put_entry-clause-appends
returns-in_err-put_entry-clause-appends c =
    behind c.args.out.now.items _ c.loop-path.out.items c.put_entry.new.out.items
    (c.loop-path.invariant empty_class) c.in_err-put_entry.ensures.appends

pub returns-clause-ok : goal.returns-clause-ok
returns-clause-ok c = λ k good. shown_all (entry k) c.args.list.now c.loop-path.path-index c.args.out.now.items
    c.loop-path.out.items good c.loop-path-test.false (c.loop-path.invariant k)

pub returns-clause-appends : goal.returns-clause-appends
returns-clause-appends c =
    starts_with_of_append c.loop-path.out.items c.args.out.now.items _ (c.loop-path.invariant empty_class)
