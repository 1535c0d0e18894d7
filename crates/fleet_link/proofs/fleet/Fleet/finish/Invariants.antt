-- The devices so far stand at the second of the session, and all are served.
use Rattle.std.proofs.Common.{Bool, ◌≡◌, ℕ, [], false, length, Option}
use Rattle.live_link.specs.Wire.{AreRead}
use Rattle.scenario_image.specs.Scenario.{Scenario}
use Rattle.fleet_link.specs.Serving.{AreAt, HaveGoneOn, IsFleet}
use Rattle.fleet_link.specs.Traffic.{Traffic}
use Rattle.fleet_link.proofs.fleet.Fleet.finish.Given as goal

abbrev pub invariant-loop-place : goal.invariant-loop-place
invariant-loop-place g l = record {
  fleet : (s : Scenario) (played : Bool) (before : ℕ → Option Traffic)
      → IsFleet s played before l.fn.self.slots.items l.fn.self.second false (g.P.Ports.told l.fn.ports)
      → IsFleet s played before l.self.slots.items l.self.second false (g.P.Ports.told l.ports);
  finished : (s : Scenario) (played : Bool) (before : ℕ → Option Traffic)
      → IsFleet s played before l.fn.self.slots.items l.fn.self.second false (g.P.Ports.told l.fn.ports)
      → AreAt l.self.slots.items l.place l.self.second;
  went : HaveGoneOn l.fn.self.slots.items l.self.slots.items;
  fixed : g.P.Ports.fixed l.ports ≡ g.P.Ports.fixed l.fn.ports;
  asked : AreRead (g.P.Ports.asked l.fn.ports) (g.P.Ports.asked l.ports) [];
  second : l.self.second ≡ l.fn.self.second;
  began : l.self.began ≡ l.fn.self.began;
  count : length l.self.slots.items ≡ length l.fn.self.slots.items;
}
