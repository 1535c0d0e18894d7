-- One resource more: its link is the first of those that were left.
use Rattle.std.proofs.Common.{false, ◌+◌, ◌∷◌, ◌++◌, ap, ◌∙◌, arith, drop}
use Rattle.object_defs.specs.declared.path.Path.TheVariants.{Resource}
use Rattle.device_requests.specs.Discover.{existing_resources, link, more_links}
use Rattle.device_requests.specs.Inside.{beginning}
use Rattle.device_requests.specs.Targets.{exists}
use Rattle.device_requests.proofs.Beginning.{beginning_long}
use Rattle.device_requests.proofs.Linking.{filtered_at}
use Rattle.device_requests.proofs.discover.Listing.put_resources.Goals as goal

pub returns-then-len-gt-LARGEST_PAYLOAD : goal.returns-then-len-gt-LARGEST_PAYLOAD
returns-then-len-gt-LARGEST_PAYLOAD c =
    beginning_long c.loop-definition.text.items _ (omega (arith, c.loop-definition.text.ok.0))
    ∙ c.loop-definition.invariant

pub loop-definition-preserved : goal.loop-definition-preserved
loop-definition-preserved c =
    let client = c.args.self.now.client.now in
    let server = c.args.self.now.server in
    let place = c.args.place in
    ap (λ t. beginning (t ++ more_links client server
    (existing_resources client.catalog client.store place.object place.instance
    (drop (c.loop-definition.definition-index + 1) c.args.resources.now))))
    c.in_ok-put_existing.ensures
    ∙ ap beginning (filtered_at c.loop-definition.text.items (λ p. 44 ∷ link client server false p)
    (exists client.catalog client.store)
    (λ d. Resource place.object place.instance d.id) c.args.resources.now c.loop-definition.definition-index _
    c.loop-definition-test.true)
    ∙ c.loop-definition.invariant
