use Rattle.std.proofs.Common.{sym, ◌∙◌}
use Rattle.fleet_wire.proofs.lossy.LossyPortsPorts.send.Goals as goal

pub returns-in-Ok-clause-wire : goal.returns-in-Ok-clause-wire
returns-in-Ok-clause-wire g c =
    λ plan devices before w whole.
    let old = w (sym (c.send_on.ensures.whole ∙ c.take_out.ensures.whole) ∙ whole) in
    c.send_on.ensures.whole_one plan devices before
    (c.in-Ok.ensures.wired plan devices before (g.P.Ports.told c.args.self.now.ports) old)
