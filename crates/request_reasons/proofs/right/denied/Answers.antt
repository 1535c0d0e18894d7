use Rattle.std.proofs.Common.{sym, ◌∙◌}
use Rattle.request_reasons.proofs.Grants.{denied_by}
use Rattle.request_reasons.proofs.right.denied.Goals as goal

pub returns : goal.returns
returns c =
    let r = c.args.request in
    denied_by c.args.client.now c.args.server c.args.message.now r.path r.operation c.in-Some.letter
    c.store.result.now c.object-object.result c.instance_asked-instance.result c.grant_of.result c.requires.denied
    c.requires.other c.object-object.ensures c.instance_asked-instance.ensures c.store.ensures
    (sym c.letter_for.ensures ∙ c.in-Some.is) c.grant_of.ensures.granted c.grant_of.ensures.gives
