use Rattle.request_reasons.proofs.Grants.{denied_all_by}
use Rattle.request_reasons.proofs.right.denied_all.Goals as goal

pub returns : goal.returns
returns c =
    denied_all_by c.args.client.now c.args.server c.args.object c.store-store.result.now
    c.instances-instances.result.now c.grant_of.result c.requires c.store-store.ensures c.instances-instances.ensures
    c.in-len1-up.len_at_least c.grant_of.ensures.granted c.grant_of.ensures.gives
