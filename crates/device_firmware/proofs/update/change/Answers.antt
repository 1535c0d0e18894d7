use Rattle.std.proofs.Common.{◌≡◌, false, None, ap, ◌∙◌, sym, subst, ◌⊎◌}
use Rattle.std.specs.Option.{is_some}
use Rattle.lemmas.proofs.Results.{on_err}
use Rattle.device_firmware.specs.Firmware.{firmware_value, is_ready, uri_of, with_uri}
use Rattle.device_firmware.proofs.AfterEvent.{wanting-uri, wanting-outcome}
use Rattle.device_firmware.proofs.update.change.Goals as goal

pub returns-in_err-set_uri-clause-may_lack_memory : goal.returns-in_err-set_uri-clause-may_lack_memory
returns-in_err-set_uri-clause-may_lack_memory c =
    let uri : c.uri_of.result ≡ uri_of c.args.event = c.uri_of.ensures in
    on_err c.from_residual.result (is_ready c.args.store.now c.args.event ≡ false)
    (wanting-uri c.args.store.now c.args.event c.in_err-set_uri.ensures.may_lack_memory.0
    (ap is_some (sym uri) ∙ c.in_err-set_uri.ensures.may_lack_memory.1))

pub returns-in_err-set_outcome-clause-may_lack_memory : goal.returns-in_err-set_outcome-clause-may_lack_memory
returns-in_err-set_outcome-clause-may_lack_memory c =
    let uri : c.uri_of.result ≡ uri_of c.args.event = c.uri_of.ensures in
    on_err c.from_residual-in_err-set_outcome.result (is_ready c.args.store.now c.args.event ≡ false)
    (wanting-outcome c.args.store.now c.args.event
    (subst (λ t. (firmware_value t 3 ≡ None) ⊎ (firmware_value t 5 ≡ None))
    (c.in_ok-set_uri.ensures.ok ∙ ap (with_uri c.args.store.now) uri)
    c.in_err-set_outcome.ensures.may_lack_memory))
