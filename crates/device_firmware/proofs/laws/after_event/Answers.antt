use Rattle.std.proofs.Common.{ap, sym, ◌∙◌}
use Rattle.device_firmware.specs.Firmware.{state_in, uri_of, with_uri, firmware_value}
use Rattle.device_firmware.proofs.AfterEvent.{taken, taken_as, state-outcome, code-outcome, uri-outcome, uri-uri}
use Rattle.device_firmware.proofs.laws.after_event.Goals as goal

pub returns-clause-outcome : goal.returns-clause-outcome
returns-clause-outcome c = λ s after event o is h.
    let e = taken_as s after event o is h in (
      ap state_in (sym e) ∙ state-outcome (with_uri s (uri_of event)) o,
      ap (λ t. firmware_value t 5) (sym e) ∙ code-outcome (with_uri s (uri_of event)) o,
    )

pub returns-clause-uri : goal.returns-clause-uri
returns-clause-uri c = λ s after event h.
    let e = taken s after event h in
    ap (λ t. firmware_value t 1) (sym e.1) ∙ uri-outcome (with_uri s (uri_of event)) e.0 ∙ uri-uri s (uri_of event)
