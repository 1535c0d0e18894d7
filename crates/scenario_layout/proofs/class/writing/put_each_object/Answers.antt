use Rattle.std.proofs.Common.{take}
use Rattle.std.proofs.Transfers.{starts_with_of_append}
use Rattle.byte_layout.proofs.Appended.{behind}
use Rattle.byte_layout.proofs.Written.{writes_on, all_written}
use Rattle.device_template.specs.Template.{empty_class}
use Rattle.scenario_layout.specs.Class as layout
use Rattle.scenario_layout.proofs.class.writing.put_each_object.Goals as goal

pub loop-object-preserved : goal.loop-object-preserved
loop-object-preserved c =
    λ k. writes_on (layout.object k) c.args.list.now c.loop-object.object-index c.object-item.result
    c.args.out.now.items c.loop-object.out.items c.put_object.new.out.items c.loop-object-test.true c.object-item.is
    (c.in_ok-put_object.ensures.ok k (take c.loop-object.object-index c.args.list.now)) (c.loop-object.invariant k)

pub returns-in_err-put_object-clause-appends : goal.returns-in_err-put_object-clause-appends
returns-in_err-put_object-clause-appends c =
    behind c.args.out.now.items _ c.loop-object.out.items c.put_object.new.out.items
    (c.loop-object.invariant empty_class) c.in_err-put_object.ensures.appends

pub returns-clause-ok : goal.returns-clause-ok
returns-clause-ok c = λ k good. all_written (layout.object k) c.args.list.now c.loop-object.object-index
    c.args.out.now.items c.loop-object.out.items good c.loop-object-test.false (c.loop-object.invariant k)

pub returns-clause-appends : goal.returns-clause-appends
returns-clause-appends c =
    starts_with_of_append c.loop-object.out.items c.args.out.now.items _ (c.loop-object.invariant empty_class)
