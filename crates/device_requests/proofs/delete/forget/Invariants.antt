-- What is left without the instances after the index is left without all.
use Rattle.std.proofs.Common.{◌≡◌, not, filter, drop}
use Rattle.instance_store.specs.Stored.{has_instance}
use Rattle.device_requests.specs.Delete.{without_controls}
use Rattle.device_requests.specs.Targets.{place_of}
use Rattle.device_requests.proofs.delete.forget.Given as goal

abbrev pub invariant-loop-instance : goal.invariant-loop-instance
invariant-loop-instance l =
    without_controls l.attributes (filter (λ j. not (has_instance l.store (place_of 2 j)))
    (drop l.instance-index l.instances))
    ≡ without_controls l.fn.attributes (filter (λ j. not (has_instance l.store (place_of 2 j))) l.instances)
