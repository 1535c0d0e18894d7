-- The devices so far are not due, and all are served.
use Rattle.std.proofs.Common.{Bool, ◌≡◌, ◌≤◌, ℕ, [], false, length, Option}
use Rattle.live_link.specs.Wire.{AreRead}
use Rattle.scenario_image.specs.Scenario.{Scenario}
use Rattle.fleet_link.specs.Serving.{AreSwept, HaveGoneOn, IsFleet}
use Rattle.fleet_link.specs.Traffic.{Traffic}
use Rattle.fleet_link.proofs.fleet.Fleet.sweep.Given as goal

abbrev pub invariant-loop-place : goal.invariant-loop-place
invariant-loop-place g l = record {
  fleet : (s : Scenario) (played : Bool) (before : ℕ → Option Traffic) → l.second ≤ l.fn.self.second
      → IsFleet s played before l.fn.self.slots.items l.fn.self.second false (g.P.Ports.told l.fn.ports)
      → IsFleet s played before l.self.slots.items l.self.second false (g.P.Ports.told l.ports);
  swept : (s : Scenario) (played : Bool) (before : ℕ → Option Traffic) → l.second ≤ l.fn.self.second
      → IsFleet s played before l.fn.self.slots.items l.fn.self.second false (g.P.Ports.told l.fn.ports)
      → AreSwept l.fn.self.slots.items l.from l.second → AreSwept l.self.slots.items l.place l.second;
  went : HaveGoneOn l.fn.self.slots.items l.self.slots.items;
  fixed : g.P.Ports.fixed l.ports ≡ g.P.Ports.fixed l.fn.ports;
  asked : AreRead (g.P.Ports.asked l.fn.ports) (g.P.Ports.asked l.ports) [];
  second : l.self.second ≡ l.fn.self.second;
  began : l.self.began ≡ l.fn.self.began;
  count : length l.self.slots.items ≡ length l.fn.self.slots.items;
}
