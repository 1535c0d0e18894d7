use Rattle.std.proofs.Common.{◌≡◌, arith, pos, rules}
use Rattle.std.proofs.lemmas.Grind.{common_steps}
use Rattle.object_defs.specs.declared.path.Path.TheVariants.{Object}
use Rattle.device_template.specs.declared.fault.TemplateFault.TheVariants.{Memory}
use Rattle.command_demo.specs.declared.demo.Held.TheVariants.{Whole}
use Rattle.command_demo.proofs.DemoClass.{next_value, only_memory}
use Rattle.command_demo.proofs.demo.add_values.Goals as goal

pub returns-in_err-add_value-clause-refused : goal.returns-in_err-add_value-clause-refused
returns-in_err-add_value-clause-refused c =
    let next = next_value _ _ _ (Object 0, Whole (pos 0)) c.loop-path-test.true c.loop-path.invariant.taken in
    let refused = rw c.in_ok-value_of.ensures at c.in_err-add_value.ensures.refused in
    let only : c.in_err-add_value.field-0.0 ≡ Memory = only_memory _ _ next.0 refused in
    search rules

pub loop-path-preserved : goal.loop-path-preserved
loop-path-preserved c =
    let next = next_value _ _ _ (Object 0, Whole (pos 0)) c.loop-path-test.true c.loop-path.invariant.taken in
    record {
      added = grind (arith, common_steps);
      taken = rw (c.in_ok-add_value.ensures.added, c.in_ok-value_of.ensures) next.1;
    }
