use Rattle.std.proofs.Transfers.{starts_with_of_append}
use Rattle.std.proofs.lemmas.List.{get_or_default}
use Rattle.byte_layout.proofs.Appended.{behind}
use Rattle.byte_layout.proofs.Written.{writes_on, all_written}
use Rattle.device_template.specs.Template.{empty_class}
use Rattle.scenario_layout.specs.Class as layout
use Rattle.scenario_layout.proofs.class.writing.put_each_instance.Goals as goal

pub loop-place-preserved : goal.loop-place-preserved
unfolding layout.instance
loop-place-preserved c =
    λ k. writes_on (layout.instance k) c.args.list.now c.loop-place.place-index _ c.args.out.now.items
    c.loop-place.out.items c.put_place.new.out.items c.loop-place-test.true
    (get_or_default c.args.list.now c.loop-place.place-index _ _ c.loop-place-test.true)
    c.in_ok-put_place.ensures.ok (c.loop-place.invariant k)

pub returns-in_err-put_place-clause-appends : goal.returns-in_err-put_place-clause-appends
returns-in_err-put_place-clause-appends c =
    behind c.args.out.now.items _ c.loop-place.out.items c.put_place.new.out.items
    (c.loop-place.invariant empty_class) c.in_err-put_place.ensures.appends

pub returns-clause-ok : goal.returns-clause-ok
returns-clause-ok c = λ k good. all_written (layout.instance k) c.args.list.now c.loop-place.place-index
    c.args.out.now.items c.loop-place.out.items good c.loop-place-test.false (c.loop-place.invariant k)

pub returns-clause-appends : goal.returns-clause-appends
returns-clause-appends c =
    starts_with_of_append c.loop-place.out.items c.args.out.now.items _ (c.loop-place.invariant empty_class)
