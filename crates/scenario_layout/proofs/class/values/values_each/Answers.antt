use Rattle.std.proofs.Common.{[]}
use Rattle.std.proofs.lemmas.Result.{err_from_is_err_and}
use Rattle.byte_layout.specs.Layout.{each}
use Rattle.scenario_layout.specs.Class.{entry, values_in, with_values}
use Rattle.scenario_layout.proofs.Growth.{filled_starts, filled_on, filled_no_more, filled_done}
use Rattle.scenario_layout.proofs.Filling.{values_same, values_twice, values_itself, values_none, values_none_last}
use Rattle.scenario_layout.proofs.class.values.values_each.Goals as goal

pub loop-init : goal.loop-init
loop-init c = record {
  filled = filled_starts entry values_in with_values c.args.template.now c.args.count c.args.bytes.now
      (values_none c.args.template.now c.requires) (values_itself c.args.template.now);
  last = values_none_last c.args.template.now c.requires;
}

pub entry_at-requires : goal.entry_at-requires
entry_at-requires c = c.loop.invariant.last

pub loop-preserved : goal.loop-preserved
loop-preserved c = record {
  filled =
      filled_on entry values_in with_values values_same values_twice c.args.template.now c.loop.template
      c.entry_at.new.template c.args.count c.loop.counter c.loop.rest.now c.in_ok-path.after.now
      ((each (entry c.args.template.now) c.args.count []).read c.args.bytes.now)
      c.loop-test.true c.in_ok-path.ensures.read c.in_ok-path.ensures.made c.loop.invariant.filled;
  last = c.in_ok-path.ensures.last;
}

pub returns-in_err-path-clause-read : goal.returns-in_err-path-clause-read
returns-in_err-path-clause-read c =
    let p = err_from_is_err_and c.from_residual.result c.from_residual.ensures.1 in
    rw (p.1, p.2) (filled_no_more entry values_in with_values values_same values_twice c.args.template.now
    c.loop.template c.in_err-path.field-0.0 c.args.count c.loop.counter c.loop.rest.now
    ((each (entry c.args.template.now) c.args.count []).read c.args.bytes.now)
    c.loop-test.true c.in_err-path.ensures.read c.loop.invariant.filled)

pub returns-clause-read : goal.returns-clause-read
returns-clause-read c =
    filled_done entry values_in with_values c.args.template.now c.loop.template c.args.count c.loop.counter
    c.loop.rest.now ((each (entry c.args.template.now) c.args.count []).read c.args.bytes.now) c.loop-test.false
    c.loop.invariant.filled

pub returns-clause-made : goal.returns-clause-made
returns-clause-made c = c.loop.invariant.filled.1
