-- There is room for the instance, and it is not there: only an allocation can fail.
use Rattle.std.proofs.Common.{◌≡◌, false, length, rules, ap, ◌∙◌}
use Rattle.device_instances.specs.Creations.{has_no_room}
use Rattle.device_requests.specs.Targets.{resources_defined}
use Rattle.device_requests.proofs.client.Client.make.Goals as goal

pub unreachable-requires : goal.unreachable-requires
unreachable-requires c =
    let place = c.args.place in
    let given = c.args.given in
    let store = c.self.inside.store in
    let count : c.len-accounts.result ≡ length c.self.inside.accounts.items = search rules in
    let room : has_no_room store c.len-accounts.result c.defined-resources.result.now place given ≡ false =
    ap (λ n. has_no_room store n c.defined-resources.result.now place given) count
    ∙ ap (λ rs. has_no_room store (length c.self.inside.accounts.items) rs place given) c.defined-resources.ensures
    ∙ ap (λ m. has_no_room m.store (length m.accounts) (resources_defined m.catalog place.object) place given)
    c.self.view_is
    ∙ c.requires.room in
    search (rules, room)
