-- All devices are served so far.
use Rattle.std.proofs.Common.{Bool, ◌≡◌, ◌+◌, ◌≤◌, ℕ, List, false, length, Option}
use Rattle.scenario_image.specs.Scenario.{Scenario}
use Rattle.fleet_link.specs.Serving.{AreSwept, HaveGoneOn, IsFleet}
use Rattle.fleet_link.specs.Timing.{AreAsked}
use Rattle.fleet_link.specs.Traffic.{Traffic}
use Rattle.fleet_link.proofs.fleet.Fleet.serve_arrivals.Given as goal

abbrev pub invariant-loop-turn : goal.invariant-loop-turn
invariant-loop-turn g l = record {
  fleet : (s : Scenario) (played : Bool) (before : ℕ → Option Traffic)
      → IsFleet s played before l.fn.self.slots.items l.fn.self.second false (g.P.Ports.told l.fn.ports)
      → IsFleet s played before l.self.slots.items l.self.second false (g.P.Ports.told l.ports);
  swept : (s : Scenario) (played : Bool) (before : ℕ → Option Traffic)
      → IsFleet s played before l.fn.self.slots.items l.fn.self.second false (g.P.Ports.told l.fn.ports)
      → (n second : ℕ) → second ≤ l.fn.self.second → AreSwept l.fn.self.slots.items n second
      → AreSwept l.self.slots.items n second;
  went : HaveGoneOn l.fn.self.slots.items l.self.slots.items;
  fixed : g.P.Ports.fixed l.ports ≡ g.P.Ports.fixed l.fn.ports;
  asked : (read_before asked_before : Option (List ℕ)) (calls : ℕ) → AreAsked read_before
      (g.C.Seconds.read l.fn.clock) asked_before (g.P.Ports.asked l.fn.ports) l.fn.self.began l.fn.self.second calls
      → AreAsked read_before (g.C.Seconds.read l.clock) asked_before (g.P.Ports.asked l.ports) l.self.began
      l.self.second (calls + l._turn);
  later : l.fn.self.second ≤ l.self.second;
  count : length l.self.slots.items ≡ length l.fn.self.slots.items;
}
