-- All devices are served.
use Rattle.std.proofs.Common.{◌≡◌, ℕ, Bool, false, length, Option}
use Rattle.scenario_image.specs.Scenario.{Scenario}
use Rattle.fleet_link.specs.Serving.{IsFleet}
use Rattle.fleet_link.specs.Traffic.{Traffic}
use Rattle.fleet_link.proofs.Gone.{AreGroupsPassed}
use Rattle.fleet_link.proofs.fleet.Fleet.pass_needs.Given as goal

abbrev pub invariant-loop-group : goal.invariant-loop-group
invariant-loop-group l = record {
  fleet : (s : Scenario) (played : Bool) (before told : ℕ → Option Traffic)
      → IsFleet s played before l.fn.self.slots.items l.fn.self.second false told
      → IsFleet s played before l.self.slots.items l.self.second false told;
  passed : AreGroupsPassed l.fn.self.second l.fn.self.slots.items l.self.slots.items l.group;
  second : l.self.second ≡ l.fn.self.second;
  began : l.self.began ≡ l.fn.self.began;
  count : length l.self.slots.items ≡ length l.fn.self.slots.items;
}
