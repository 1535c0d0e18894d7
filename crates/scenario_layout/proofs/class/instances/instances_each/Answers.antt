use Rattle.std.proofs.Common.{[]}
use Rattle.std.proofs.lemmas.Result.{err_from_is_err_and}
use Rattle.byte_layout.specs.Layout.{each}
use Rattle.scenario_layout.specs.Class.{instance, instances_in, with_instances}
use Rattle.scenario_layout.proofs.Growth.{filled_starts, filled_on, filled_no_more, filled_done}
use Rattle.scenario_layout.proofs.Filling.{instances_same, instances_twice, instances_itself, instances_none}
use Rattle.scenario_layout.proofs.Filling.{instances_none_last}
use Rattle.scenario_layout.proofs.class.instances.instances_each.Goals as goal

pub loop-init : goal.loop-init
loop-init c = record {
  filled = filled_starts instance instances_in with_instances c.args.template.now c.args.count c.args.bytes.now
      (instances_none c.args.template.now c.requires) (instances_itself c.args.template.now);
  last = instances_none_last c.args.template.now c.requires;
}

pub instance_at-requires : goal.instance_at-requires
instance_at-requires c = c.loop.invariant.last

pub loop-preserved : goal.loop-preserved
loop-preserved c = record {
  filled =
      filled_on instance instances_in with_instances instances_same instances_twice c.args.template.now c.loop.template
      c.instance_at.new.template c.args.count c.loop.counter c.loop.rest.now c.in_ok-place.after.now
      ((each (instance c.args.template.now) c.args.count []).read c.args.bytes.now)
      c.loop-test.true c.in_ok-place.ensures.read c.in_ok-place.ensures.made c.loop.invariant.filled;
  last = c.in_ok-place.ensures.last;
}

pub returns-in_err-place-clause-read : goal.returns-in_err-place-clause-read
returns-in_err-place-clause-read c =
    let p = err_from_is_err_and c.from_residual.result c.from_residual.ensures.1 in
    rw (p.1, p.2) (filled_no_more instance instances_in with_instances instances_same instances_twice
    c.args.template.now c.loop.template c.in_err-place.field-0.0 c.args.count c.loop.counter c.loop.rest.now
    ((each (instance c.args.template.now) c.args.count []).read c.args.bytes.now)
    c.loop-test.true c.in_err-place.ensures.read c.loop.invariant.filled)

pub returns-clause-read : goal.returns-clause-read
returns-clause-read c =
    filled_done instance instances_in with_instances c.args.template.now c.loop.template c.args.count c.loop.counter
    c.loop.rest.now ((each (instance c.args.template.now) c.args.count []).read c.args.bytes.now) c.loop-test.false
    c.loop.invariant.filled

pub returns-clause-made : goal.returns-clause-made
returns-clause-made c = c.loop.invariant.filled.1
