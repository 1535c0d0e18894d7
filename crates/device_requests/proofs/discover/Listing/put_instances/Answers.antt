-- One instance more: its links are the first of those that were left.
use Rattle.std.proofs.Common.{false, get_or, ◌+◌, ◌∷◌, ◌++◌, ap, ◌∙◌, arith, drop}
use Rattle.std.specs.List.{flat_map}
use Rattle.device_requests.specs.Discover.{instance_paths, link, more_links}
use Rattle.device_requests.specs.Inside.{beginning}
use Rattle.device_requests.proofs.Beginning.{beginning_long, beginning_more}
use Rattle.device_requests.proofs.Linking.{flattened_at}
use Rattle.device_requests.proofs.discover.Listing.put_instances.Goals as goal

pub returns-then-len-gt-LARGEST_PAYLOAD : goal.returns-then-len-gt-LARGEST_PAYLOAD
returns-then-len-gt-LARGEST_PAYLOAD c =
    beginning_long c.loop-instance.text.items _ (omega (arith, c.loop-instance.text.ok.0))
    ∙ c.loop-instance.invariant

pub loop-instance-preserved : goal.loop-instance-preserved
loop-instance-preserved c =
    let client = c.args.self.now.client.now in
    let server = c.args.self.now.server in
    let paths = instance_paths client.catalog client.store c.args.object in
    let i = c.loop-instance.instance-index in
    beginning_more c.put_instance.new.text.items
    (c.loop-instance.text.items ++ more_links client server (paths (get_or c.args.instances.now i 0)))
    (more_links client server (flat_map paths (drop (i + 1) c.args.instances.now))) c.in_ok-put_instance.ensures
    ∙ ap beginning (flattened_at c.loop-instance.text.items (λ p. 44 ∷ link client server false p) paths
    c.args.instances.now i 0 c.loop-instance-test.true)
    ∙ c.loop-instance.invariant
