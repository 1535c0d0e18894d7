use Rattle.std.proofs.Common.{◌≡◌, ℕ, ◌<◌, true}
use Rattle.instance_store.specs.Stored.{has_instance}
use Rattle.device_instances.specs.Numbers.{instance_at}
use Rattle.device_instances.proofs.number.first_free.Given as goal

abbrev pub invariant-loop-instance : goal.invariant-loop-instance
invariant-loop-instance l = (k : ℕ) → k < l.instance → has_instance l.store (instance_at l.object k) ≡ true
