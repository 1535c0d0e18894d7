use Rattle.std.proofs.Common.{sym, ◌∙◌}
use Rattle.device_requests.specs.Create.{creation_lack, newborn}
use Rattle.request_reasons.proofs.Judged.{never_none}
use Rattle.request_reasons.proofs.limit.room_limit.Goals as goal

pub unreachable-requires : goal.unreachable-requires
unreachable-requires c =
    let client = c.args.client.now in
    never_none (creation_lack client c.args.object (newborn client c.args.object c.args.payload.now))
    (sym c.in-None.is ∙ c.in_ok-lack.ensures) c.requires
