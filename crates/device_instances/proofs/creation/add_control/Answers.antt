use Rattle.std.proofs.Common.{ap, ◌∙◌}
use Rattle.instance_store.specs.Stored.{has_instance}
use Rattle.device_instances.specs.Numbers.{instance_at}
use Rattle.device_instances.proofs.Instances.{added}
use Rattle.device_instances.proofs.creation.add_control.Goals as goal

pub fill_control-requires : goal.fill_control-requires
fill_control-requires c =
    let at = instance_at 2 c.args.instance in
    ap (λ s. has_instance s at) c.in_ok-add.ensures ∙ added c.args.store.now at
