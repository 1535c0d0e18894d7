-- What has been sent so far, and what stays as it was.
use Rattle.std.proofs.Common.{◌≡◌, ℕ, Option, length, []}
use Rattle.live_link.specs.Wire.{AreRead}
use Rattle.fleet_link.specs.Traffic.{Traffic}
use Rattle.fleet_wire.specs.declared.plan.Plan.{Plan}
use Rattle.fleet_wire.specs.Lane.{came_by}
use Rattle.fleet_wire.specs.Wire.{IsWired}
use Rattle.fleet_wire.proofs.lossy.send_on.Given as goal

abbrev pub invariant-loop : goal.invariant-loop
invariant-loop g l =
    record {
      wired : (plan : Plan) (devices : ℕ) (before : ℕ → Option Traffic)
          → IsWired plan devices before (g.P.Ports.told l.fn.ports) l.fn.wire
          → IsWired plan devices before (g.P.Ports.told l.ports) l.wire;
      came : (e : ℕ) → came_by l.wire.outgoing.log e ≡ came_by l.fn.wire.outgoing.log e;
      plan : l.wire.plan ≡ l.fn.wire.plan;
      second : l.wire.second ≡ l.fn.wire.second;
      incoming : l.wire.incoming ≡ l.fn.wire.incoming;
      whole : l.wire.whole ≡ l.fn.wire.whole;
      calls : l.wire.calls ≡ l.fn.wire.calls;
      taken : l.wire.taken ≡ l.fn.wire.taken;
      fixed : g.P.Ports.fixed l.ports ≡ g.P.Ports.fixed l.fn.ports;
      asked : AreRead (g.P.Ports.asked l.fn.ports) (g.P.Ports.asked l.ports) [];
    }

abbrev pub decreases-loop : goal.decreases-loop
decreases-loop g l = length l.wire.outgoing.held.items
