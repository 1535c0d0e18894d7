use Rattle.std.proofs.Common.{◌<◌, length, arith}
use Rattle.trace_text.proofs.Seconds.{next_second, second_within}
use Rattle.trace_text.proofs.clock.second_from.Goals as goal

pub overflow_add-second : goal.overflow_add-second
overflow_add-second c =
    let within : c.loop-at.at < length c.args.steps.now = omega (arith, c.loop-at-test.true, c.requires.within) in
    omega (
      arith,
      c.requires.room,
      second_within c.args.steps.now c.loop-at.at c.index-steps-at.result c.loop-at.second
          c.step_seconds-second.result within c.index-steps-at.is c.loop-at.invariant c.step_seconds-second.ensures,
    )

pub loop-at-preserved : goal.loop-at-preserved
loop-at-preserved c =
    let within : c.loop-at.at < length c.args.steps.now = omega (arith, c.loop-at-test.true, c.requires.within) in
    next_second c.args.steps.now c.loop-at.at c.index-steps-at.result c.loop-at.second c.step_seconds-second.result
    within c.index-steps-at.is c.loop-at.invariant c.step_seconds-second.ensures
