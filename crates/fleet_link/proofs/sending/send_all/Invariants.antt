-- The datagrams among the outputs before the index were sent.
use Rattle.std.proofs.Common.{◌≡◌, ℕ, take, []}
use Rattle.live_link.specs.Live.{packets_in}
use Rattle.live_link.specs.Wire.{AreRead}
use Rattle.fleet_link.specs.Traffic.{Carries, at_port, sent_all}
use Rattle.fleet_link.proofs.sending.send_all.Given as goal

abbrev pub invariant-loop-output : goal.invariant-loop-output
invariant-loop-output g l = record {
  told : (e : ℕ) → Carries (g.P.Ports.told l.fn.ports e) (g.P.Ports.told l.ports e)
      (at_port l.device e (sent_all (packets_in (take l.output-index l.outputs))));
  fixed : g.P.Ports.fixed l.ports ≡ g.P.Ports.fixed l.fn.ports;
  asked : AreRead (g.P.Ports.asked l.fn.ports) (g.P.Ports.asked l.ports) [];
}
