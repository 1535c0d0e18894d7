use Rattle.std.proofs.Common.{ap, sym, ◌∙◌}
use Rattle.instance_store.specs.Stored.{Stored, value_at}
use Rattle.device_firmware.specs.Firmware.{uri_of, with_uri}
use Rattle.device_firmware.proofs.AfterEvent.{taken, other-outcome, other-uri, same_instances}
use Rattle.device_firmware.proofs.laws.others.Goals as goal

pub returns : goal.returns
returns c = λ s after event q h not1 not3 not5.
    let e = taken s after event h in (
      ap (λ t. value_at t q) (sym e.1) ∙ other-outcome (with_uri s (uri_of event)) e.0 q not3 not5
          ∙ other-uri s (uri_of event) q not1,
      ap (λ (t : Stored). t.instances) (sym e.1) ∙ same_instances s (uri_of event),
    )
