use Rattle.command_demo.specs.Demo.{demo_outputs, demo_start}
use Rattle.command_demo.proofs.demo.answer.Goals as goal

pub returns-in-Ok-clause-outputs : goal.returns-in-Ok-clause-outputs
unfolding demo_outputs demo_start
returns-in-Ok-clause-outputs c =
    c.in-Ok.ensures.outputs demo_start (rw (← c.in_ok-template.ensures.class) c.in_ok-device.ensures)
