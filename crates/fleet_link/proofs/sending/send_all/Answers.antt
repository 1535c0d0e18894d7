use Rattle.std.proofs.Common.{◌∙◌, arith}
use Rattle.fleet_link.proofs.Told.{one_more, still_none}
use Rattle.fleet_link.proofs.sending.send_all.Goals as goal

pub loop-output-preserved : goal.loop-output-preserved
loop-output-preserved g c = record {
  told = λ e. one_more c.args.device e (g.P.Ports.told c.args.ports.now e) (g.P.Ports.told c.loop-output.ports e)
      (g.P.Ports.told c.send_one.new.ports e) c.args.outputs.now c.loop-output.output-index c.output-item.result
      (c.loop-output.invariant.told e) (c.send_one.ensures.told e) (omega arith) c.output-item.is;
  fixed = c.send_one.ensures.fixed ∙ c.loop-output.invariant.fixed;
  asked = still_none (g.P.Ports.asked c.args.ports.now) (g.P.Ports.asked c.loop-output.ports)
      (g.P.Ports.asked c.send_one.new.ports) c.loop-output.invariant.asked c.send_one.ensures.asked;
}
