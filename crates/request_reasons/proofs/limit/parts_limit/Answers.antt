use Rattle.std.proofs.Common.{sym, ◌∙◌}
use Rattle.device_requests.specs.Write.{write_excess}
use Rattle.request_reasons.proofs.Judged.{never_none}
use Rattle.request_reasons.proofs.limit.parts_limit.Goals as goal

pub unreachable-requires : goal.unreachable-requires
unreachable-requires c =
    never_none (write_excess c.args.client.now c.args.mode c.args.path c.args.number c.args.payload.now)
    (sym c.in-None.is ∙ c.in_ok-excess.ensures) c.requires
