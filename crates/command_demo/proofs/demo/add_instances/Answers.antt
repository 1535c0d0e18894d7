use Rattle.std.proofs.Common.{◌≡◌, arith, rules}
use Rattle.std.proofs.lemmas.Grind.{common_steps}
use Rattle.device_template.specs.declared.fault.TemplateFault.TheVariants.{Memory}
use Rattle.command_demo.proofs.DemoClass.{next_instance, only_memory}
use Rattle.command_demo.proofs.demo.add_instances.Goals as goal

pub returns-in_err-add_instance-clause-refused : goal.returns-in_err-add_instance-clause-refused
returns-in_err-add_instance-clause-refused c =
    let next = next_instance _ _ _ (0, 0) c.loop-object-test.true c.loop-object.invariant.taken in
    let refused = c.in_err-add_instance.ensures.refused in
    let only : c.in_err-add_instance.field-0.0 ≡ Memory = only_memory _ _ next.0 refused in
    search rules

pub loop-object-preserved : goal.loop-object-preserved
loop-object-preserved c =
    let next = next_instance _ _ _ (0, 0) c.loop-object-test.true c.loop-object.invariant.taken in
    record {
      added = grind (arith, common_steps);
      taken = rw c.in_ok-add_instance.ensures.added next.1;
    }
