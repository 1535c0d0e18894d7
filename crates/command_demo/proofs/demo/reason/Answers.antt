use Rattle.command_demo.specs.Demo.{demo_start}
use Rattle.command_demo.proofs.demo.reason.Goals as goal

pub returns-clause-reason : goal.returns-clause-reason
unfolding demo_start
returns-clause-reason c =
    c.in_ok-line.ensures demo_start (rw (← c.in_ok-template.ensures.class) c.in_ok-device.ensures)
