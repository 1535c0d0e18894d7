use Rattle.std.proofs.Common.{rules}
use Rattle.command_demo.specs.Demo.{demo_class}
use Rattle.command_demo.proofs.DemoClass.{instances_taken, values_taken}
use Rattle.command_demo.proofs.demo.template.Goals as goal

pub add_instances-requires : goal.add_instances-requires
add_instances-requires c =
    rw (c.in_ok-add_account.ensures.added, c.in_ok-template.ensures) instances_taken

pub add_values-requires : goal.add_values-requires
add_values-requires c =
    rw (c.in_ok-add_instances.ensures.added, c.in_ok-add_account.ensures.added, c.in_ok-template.ensures) values_taken

pub returns : goal.returns
unfolding demo_class
returns c = search rules
