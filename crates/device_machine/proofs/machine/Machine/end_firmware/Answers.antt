-- Where there is none to end, nothing changes; where there is one, it is said of what it reaches.
use Rattle.std.proofs.Common.{◌≡◌, ◌∙◌, false, Option, None, Some, ap, subst, sym, unwrap_or}
use Rattle.std.specs.Option.{is_some}
use Rattle.lemmas.proofs.Results.{on_ok}
use Rattle.device_firmware.specs.Firmware.{firmware_after}
use Rattle.device_firmware.specs.declared.event.FirmwareEvent.TheVariants.{Ended}
use Rattle.instance_store.specs.Stored.{Stored}
use Rattle.device_requests.specs.Client.{Client, with_stored}
use Rattle.device_notifications.specs.Outlooks.{outlooks_of}
use Rattle.device_machine.specs.Held.{IsUpToDate}
use Rattle.device_machine.proofs.Settling.{known_ended}
use Rattle.device_machine.proofs.machine.Machine.end_firmware.Goals as goal

missed : (client new : Client) (after : Option Stored) → is_some after ≡ false
    → new ≡ with_stored client (unwrap_or after client.store) → new ≡ client
missed client new None h is = is
missed client new (Some stored) h is = cc

pub returns-clause-up_to_date : goal.returns-clause-up_to_date
returns-clause-up_to_date c =
    let client = c.self.inside.client in
    let os = c.self.inside.observations.list in
    let same = missed client c.end_firmware.new.self (firmware_after client.store (Ended c.args.code))
    (sym c.in_ok-end_firmware.ensures.ended ∙ c.if-branch.false) c.in_ok-end_firmware.ensures.change in
    on_ok c.one.result _ (subst IsUpToDate (sym c.self.view_is) c.requires ∙ ap (λ x. outlooks_of x os) (sym same))

pub returns-then-branch-clause-up_to_date : goal.returns-then-branch-clause-up_to_date
returns-then-branch-clause-up_to_date c =
    known_ended c.args.code c.self.inside.client c.end_firmware.new.self c.self.inside.observations
    c.say_reached.new.observations (subst IsUpToDate (sym c.self.view_is) c.requires)
    c.in_ok-end_firmware.ensures.change c.in_ok-say_reached.ensures.known
