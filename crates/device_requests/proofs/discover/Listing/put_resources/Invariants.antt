-- The links so far, and those of the resources that are left, begin as all do.
use Rattle.std.proofs.Common.{◌≡◌, ◌++◌, drop}
use Rattle.device_requests.specs.Discover.{existing_resources, more_links}
use Rattle.device_requests.specs.Inside.{beginning}
use Rattle.device_requests.proofs.discover.Listing.put_resources.Given as goal

abbrev pub invariant-loop-definition : goal.invariant-loop-definition
invariant-loop-definition l =
    let client = l.self.client.now in
    beginning (l.text.items ++ more_links client l.self.server (existing_resources client.catalog client.store
    l.place.object l.place.instance (drop l.definition-index l.resources)))
    ≡ beginning (l.fn.text.items ++ more_links client l.self.server
    (existing_resources client.catalog client.store l.place.object l.place.instance l.resources))
