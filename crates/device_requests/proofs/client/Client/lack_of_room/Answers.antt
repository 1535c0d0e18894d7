-- For what there is no room in the store of the client, for its accounts and by its catalog.
use Rattle.std.proofs.Common.{length, ap, ◌∙◌}
use Rattle.device_requests.specs.Targets.{resources_defined}
use Rattle.device_instances.specs.Creations.{lack_of_room}
use Rattle.device_requests.proofs.client.Client.lack_of_room.Goals as goal

pub returns : goal.returns
returns c =
    let place = c.args.place in
    let given = c.args.given.now in
    let accounts = c.args.self.now.accounts in
    c.lack_of_room.ensures
    ∙ ap (λ n. lack_of_room c.self.inside.store n c.defined-resources.result.now place given) c.account_count.ensures
    ∙ ap (λ rs. lack_of_room c.self.inside.store (length accounts) rs place given) c.defined-resources.ensures
    ∙ ap (λ m. lack_of_room m.store (length accounts) (resources_defined m.catalog place.object) place given)
    c.self.view_is
