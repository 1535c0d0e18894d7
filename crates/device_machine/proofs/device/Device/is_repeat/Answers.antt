-- A request is the repeat of one that lives, and what a device shows has those that live.
use Rattle.std.proofs.Common.{◌≡◌, Bor, Option, None, Some, refl, ap, ◌∙◌}
use Rattle.std.specs.Option.{is_some, option_copied}
use Rattle.device_machine.specs.Held.{StateWithOutlooks}
use Rattle.device_machine.specs.State.{Device as Shown, with_live_records}
use Rattle.device_machine.specs.declared.recorded.Recorded.{Recorded}
use Rattle.device_machine.proofs.Living.{repeat_shown}
use Rattle.device_machine.proofs.device.Device.is_repeat.Goals as goal

copied : (o : Option (Bor Recorded)) → is_some o ≡ is_some (option_copied o)
copied None = refl
copied (Some r) = refl

pub returns : goal.returns
returns c =
    record {
      shown = λ f shows. c.is_some.ensures ∙ copied c.repeat_of.result ∙ ap is_some c.repeat_of.ensures.found
          ∙ ap is_some (repeat_shown c.args.self.now f c.deref.result.now.flat
          (ap (λ (h : StateWithOutlooks). with_live_records h.flat) c.deref.ensures
          ∙ ap (λ (d : Shown). d.flat) c.self.view_is)
          c.repeat_of.ensures.own_keys shows c.args.server c.args.message.now);
    }
