use Rattle.std.proofs.Common.{◌-◌, ◌+◌, ◌<◌, arith}
use Rattle.case_play.proofs.Walking.{machine_shows, few_made}
use Rattle.case_play.proofs.walk.Walk.make_steps.Goals as goal

pub advance-requires : goal.advance-requires
advance-requires c =
    machine_shows c.args.scenario.now c.args.self.now c.in-Some.machine c.requires c.in-Some.is

pub overflow_add-self : goal.overflow_add-self
overflow_add-self c =
    let some : 0 < c.args.times = omega (arith, c.if-times-eq0.false) in
    omega (
      arith,
      few_made c.args.scenario.now (c.args.self.now.begun - 1) (c.args.self.now.steps + c.args.times)
          c.in_ok-made-in-Some.made c.in-Some-made.outputs c.advance.new.machine c.rows-known.ensures.valid
          (c.in_ok-made-in-Some.ensures some) c.in-Some-made.is,
    )
