-- All devices are served so far, and those of the slices so far are not due.
use Rattle.std.proofs.Common.{Bool, ◌≡◌, ◌+◌, ◌≤◌, ◌*◌, ℕ, List, false, length, min, Option}
use Rattle.scenario_image.specs.Scenario.{Scenario}
use Rattle.fleet_link.specs.Serving.{AreSwept, HaveGoneOn, IsFleet}
use Rattle.fleet_link.specs.Timing.{AreAsked}
use Rattle.fleet_link.specs.Traffic.{Traffic}
use Rattle.fleet_link.proofs.fleet.Fleet.sweep_slices.Given as goal

abbrev pub invariant-loop-slice : goal.invariant-loop-slice
invariant-loop-slice g l = record {
  fleet : (s : Scenario) (played : Bool) (before : ℕ → Option Traffic)
      → IsFleet s played before l.fn.self.slots.items l.fn.self.second false (g.P.Ports.told l.fn.ports)
      → IsFleet s played before l.self.slots.items l.self.second false (g.P.Ports.told l.ports);
  swept : (s : Scenario) (played : Bool) (before : ℕ → Option Traffic)
      → IsFleet s played before l.fn.self.slots.items l.fn.self.second false (g.P.Ports.told l.fn.ports)
      → AreSwept l.self.slots.items (min l.devices (l.slice * 64)) l.second;
  went : HaveGoneOn l.fn.self.slots.items l.self.slots.items;
  fixed : g.P.Ports.fixed l.ports ≡ g.P.Ports.fixed l.fn.ports;
  asked : (read_before asked_before : Option (List ℕ)) (calls : ℕ) → AreAsked read_before
      (g.C.Seconds.read l.fn.clock) asked_before (g.P.Ports.asked l.fn.ports) l.fn.self.began l.fn.self.second calls
      → AreAsked read_before (g.C.Seconds.read l.clock) asked_before (g.P.Ports.asked l.ports) l.self.began
      l.self.second (calls + l.slice);
  later : l.fn.self.second ≤ l.self.second;
  count : length l.self.slots.items ≡ length l.fn.self.slots.items;
}
