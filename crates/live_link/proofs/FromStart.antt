-- A session of a device of a class, from what `serve` promises.
use Rattle.std.proofs.Common.{◌≡◌, ℕ, true, false, List, Option, sym, subst}
use Rattle.device_template.specs.Template.{Template}
use Rattle.device_machine.specs.State.{Device, Shows}
use Rattle.scenario_image.specs.Play.{start}
use Rattle.live_link.specs.declared.session.LiveSession.{LiveSession}
use Rattle.live_link.specs.Served.{IsServed, IsSession}
use Rattle.live_link.specs.Wire.{Traffic}

never : false ≡ true → ⊥
never h = cc

pub served : (class : Template) (turns : ℕ) (device : Device) (session : LiveSession) (before after : Option Traffic)
    (read_before read_after : Option (List ℕ)) → Shows device (start class)
    → IsSession (Shows device) device.spent turns session.end session.steps.items session.sent.items before after
    read_before read_after
    → IsServed class turns session before after read_before read_after
served class turns device session before after read_before read_after shows h =
    record {
      received = h.received;
      refusals = h.refusals;
      few = h.few;
      told = h.told;
      readings = h.readings;
      read = h.read;
      refused = h.refused;
      made = h.made;
      put_out = λ f e. h.put_out f (subst (Shows device) (sym e) shows);
      past_end = λ f e. h.past_end f (subst (Shows device) (sym e) shows);
      deaf = λ k. absurd (never k);
    }
