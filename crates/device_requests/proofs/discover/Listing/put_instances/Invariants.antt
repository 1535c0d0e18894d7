-- The links so far, and those of the instances that are left, begin as all do.
use Rattle.std.proofs.Common.{◌≡◌, ◌++◌, drop}
use Rattle.std.specs.List.{flat_map}
use Rattle.device_requests.specs.Discover.{instance_paths, more_links}
use Rattle.device_requests.specs.Inside.{beginning}
use Rattle.device_requests.proofs.discover.Listing.put_instances.Given as goal

abbrev pub invariant-loop-instance : goal.invariant-loop-instance
invariant-loop-instance l =
    let client = l.self.client.now in
    beginning (l.text.items ++ more_links client l.self.server
    (flat_map (instance_paths client.catalog client.store l.object) (drop l.instance-index l.instances)))
    ≡ beginning (l.fn.text.items ++ more_links client l.self.server
    (flat_map (instance_paths client.catalog client.store l.object) l.instances))
