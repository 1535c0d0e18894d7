use Rattle.std.proofs.Common.{sym, ◌∙◌}
use Rattle.device_requests.specs.Create.{newborn_judged}
use Rattle.request_reasons.proofs.Judged.{never_neither}
use Rattle.request_reasons.proofs.invalid.unfit_create.Goals as goal

pub unreachable-requires : goal.unreachable-requires
unreachable-requires c =
    never_neither (newborn_judged c.args.client.now c.args.object c.args.payload.now)
    (sym c.in-None.is ∙ c.in_ok-fault.ensures) c.requires
