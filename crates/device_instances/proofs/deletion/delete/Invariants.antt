use Rattle.std.specs.FinMap as map
use Rattle.device_instances.proofs.Deleted.{Progress}
use Rattle.device_instances.proofs.deletion.delete.Given as goal

abbrev pub invariant-loop-instance : goal.invariant-loop-instance
invariant-loop-instance l = Progress l.place l.fn.store l.store

abbrev pub decreases-loop-instance : goal.decreases-loop-instance
decreases-loop-instance l = map.len l.store.instances
