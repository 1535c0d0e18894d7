-- No request that is kept is of the same server, type and message ID, since all of them live.
use Rattle.std.proofs.Common.{sym, ap, ◌∙◌}
use Rattle.device_machine.specs.Asked.{message_with}
use Rattle.device_machine.specs.Held.{StateWithOutlooks}
use Rattle.device_machine.specs.Reactions.{is_same, repeat_of}
use Rattle.device_machine.proofs.Lives.{found_live}
use Rattle.device_machine.proofs.machine.Machine.conclude.Goals as goal

pub push-requires : goal.push-requires
push-requires c =
    let server = c.args.server in
    let m = message_with c.args.asked.kind c.args.asked.mid c.args.asked.token.now in
    sym (found_live c.self.inside.clock (is_same server m) c.self.inside.recorded c.self.invariant)
    ∙ ap (λ (h : StateWithOutlooks). repeat_of h.flat server m) c.self.view_is
    ∙ c.requires.fresh
