use Rattle.std.proofs.Common.{◌≡◌, None, ◌⊎◌, inr}
use Rattle.lemmas.proofs.Results.{on_err}
use Rattle.device_firmware.specs.Firmware.{firmware_value}
use Rattle.device_firmware.proofs.AfterEvent.{still-5}
use Rattle.device_firmware.proofs.update.set_outcome.Goals as goal

pub returns-in_err-put-2-clause-may_lack_memory : goal.returns-in_err-put-2-clause-may_lack_memory
returns-in_err-put-2-clause-may_lack_memory c =
    on_err c.from_residual-in_err-put-2.result
    ((firmware_value c.args.store.now 3 ≡ None) ⊎ (firmware_value c.args.store.now 5 ≡ None))
    (inr (still-5 c.args.store.now c.put.new.store _ c.in_ok-put.ensures.ok c.in_err-put-2.ensures.may_lack_memory))
