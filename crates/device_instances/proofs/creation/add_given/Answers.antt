use Rattle.std.proofs.Common.{ap, ◌∙◌}
use Rattle.instance_store.specs.Stored.{has_instance}
use Rattle.device_instances.proofs.Counting.{counts_alike}
use Rattle.device_instances.proofs.Instances.{added}
use Rattle.device_instances.proofs.creation.add_given.Goals as goal

pub write-requires-clause-there : goal.write-requires-clause-there
write-requires-clause-there c =
    ap (λ s. has_instance s c.args.place) c.in_ok-add.ensures ∙ added c.args.store.now c.args.place

pub write-requires-clause-room : goal.write-requires-clause-room
write-requires-clause-room c =
    counts_alike c.args.resources.now c.add.new.store c.args.store.now c.args.place c.args.given ∙ c.requires.few
