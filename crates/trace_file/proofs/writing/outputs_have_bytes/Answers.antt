use Rattle.std.proofs.Common.{length, ◌<◌, refl, arith}
use Rattle.trace_file.specs.Layout.{output, output_list}
use Rattle.trace_file.proofs.Counted.{none_yet, one_more, all_good, item_good, count_below}
use Rattle.trace_file.proofs.writing.outputs_have_bytes.Goals as goal

pub loop-item-init : goal.loop-item-init
loop-item-init c = none_yet output c.args.items.now

pub returns-then-items : goal.returns-then-items
unfolding output_list
returns-then-items c = (
  λ e. absurd cc,
  λ good. absurd (let below : length c.args.items.now < 4294967296 =
      count_below output c.args.items.now good in omega (arith, c.if-items.true)),
)

pub returns-then-not-output_has_bytes : goal.returns-then-not-output_has_bytes
unfolding output_list
returns-then-not-output_has_bytes c = (
  λ e. absurd cc,
  λ good. c.if-not-output_has_bytes.ensures.1
      (item_good output c.args.items.now c.loop-item.item-index c.item-item.result c.loop-item-test.true
      c.item-item.is good),
)

pub loop-item-preserved : goal.loop-item-preserved
loop-item-preserved c =
    one_more output c.args.items.now c.loop-item.item-index c.item-item.result c.loop-item-test.true c.item-item.is
    (c.if-not-output_has_bytes.ensures.0 refl) c.loop-item.invariant

pub returns : goal.returns
unfolding output_list
returns c = (
  λ e. all_good output c.args.items.now c.loop-item.item-index
      (omega (arith, c.if-items.false)) c.loop-item-test.false c.loop-item.invariant,
  λ good. refl,
)
