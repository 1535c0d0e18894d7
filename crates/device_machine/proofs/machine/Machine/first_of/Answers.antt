-- All that are kept live.
use Rattle.std.proofs.Common.{[], sym, ap, ◌∙◌}
use Rattle.device_machine.specs.Asked.{message_with}
use Rattle.device_machine.specs.Held.{StateWithOutlooks}
use Rattle.device_machine.specs.Reactions.{is_same, repeat_of}
use Rattle.device_machine.proofs.Lives.{found_live}
use Rattle.device_machine.proofs.machine.Machine.first_of.Goals as goal

pub returns : goal.returns
returns c =
    let server = c.args.server in
    let m = message_with c.args.kind c.args.mid [] in
    c.find.ensures
    ∙ sym (found_live c.self.inside.clock (is_same server m) c.self.inside.recorded c.self.invariant)
    ∙ ap (λ (h : StateWithOutlooks). repeat_of h.flat server m) c.self.view_is
