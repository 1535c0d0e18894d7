-- All devices are served, and the needs of those so far have been tried.
use Rattle.std.proofs.Common.{◌≡◌, ◌≤◌, ℕ, Bool, false, length, Option}
use Rattle.scenario_image.specs.Scenario.{Scenario}
use Rattle.fleet_link.specs.Serving.{posts_of, IsFleet}
use Rattle.fleet_link.specs.Traffic.{Traffic}
use Rattle.fleet_link.proofs.Gone.{AreTried}
use Rattle.fleet_link.proofs.fleet.Fleet.pass_group.Given as goal

abbrev pub invariant-loop-place : goal.invariant-loop-place
invariant-loop-place l = record {
  fleet : (s : Scenario) (played : Bool) (before told : ℕ → Option Traffic)
      → IsFleet s played before l.fn.self.slots.items l.fn.self.second false told
      → IsFleet s played before l.self.slots.items l.self.second false told;
  stand : (s : Scenario) (played : Bool) (before told : ℕ → Option Traffic)
      → IsFleet s played before l.fn.self.slots.items l.fn.self.second false told
      → l.posts ≤ posts_of l.self.slots.items l.group l.now;
  tried : AreTried l.group l.posts l.now l.fn.self.slots.items l.self.slots.items l.place;
  second : l.self.second ≡ l.fn.self.second;
  began : l.self.began ≡ l.fn.self.began;
  count : length l.self.slots.items ≡ length l.fn.self.slots.items;
}
