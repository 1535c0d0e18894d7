use Rattle.byte_layout.proofs.Written.{writes_on, all_written}
use Rattle.scenario_layout.specs.Class.{class}
use Rattle.scenario_image.proofs.Saving.{one_more, all_good}
use Rattle.scenario_image.proofs.image.put_each_class.Goals as goal

pub loop-template-preserved : goal.loop-template-preserved
loop-template-preserved c = record {
  good = one_more c.args.list.now c.loop-template.template-index c.template-item.result c.loop-template-test.true
      c.template-item.is c.in_ok-put_class.ensures.good c.loop-template.invariant.good;
  bytes = writes_on (λ before. class 2) c.args.list.now c.loop-template.template-index c.template-item.result
      c.args.out.now.items c.loop-template.out.items c.put_class.new.out.items c.loop-template-test.true
      c.template-item.is c.in_ok-put_class.ensures.bytes c.loop-template.invariant.bytes;
}

pub returns-clause-good : goal.returns-clause-good
returns-clause-good c =
    all_good c.args.list.now c.loop-template.template-index c.loop-template-test.false c.loop-template.invariant.good

pub returns-clause-bytes : goal.returns-clause-bytes
returns-clause-bytes c =
    all_written (λ before. class 2) c.args.list.now c.loop-template.template-index c.args.out.now.items
    c.loop-template.out.items
    (all_good c.args.list.now c.loop-template.template-index c.loop-template-test.false c.loop-template.invariant.good)
    c.loop-template-test.false c.loop-template.invariant.bytes
