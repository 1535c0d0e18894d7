-- All devices are served so far, what went through and each second were told, and snapshots were made.
use Rattle.std.proofs.Common.{ℕ, ◌≡◌, ◌+◌, ◌&&◌, Bool, List, false, Option, slice_get}
use Rattle.scenario_image.specs.Scenario.{Scenario}
use Rattle.fleet_link.specs.Serving.{repeats_in, AreRepeated, IsFleet}
use Rattle.fleet_link.specs.Timing.{AreAsked}
use Rattle.fleet_link.specs.Traffic.{Traffic}
use Rattle.command_files.specs.World.{Streams}
use Rattle.command_fleet.specs.Snapshots.{AreKept}
use Rattle.command_fleet.specs.Telling.{AreTold}
use Rattle.command_fleet.proofs.serving.go_on.Given as goal

abbrev pub invariant-loop-turn : goal.invariant-loop-turn
invariant-loop-turn g l = record {
  fleet : (s : Scenario) (played : Bool) (before : ℕ → Option Traffic)
      → IsFleet s played before l.fn.fleet.slots.items l.fn.fleet.second false (g.P.Ports.told l.fn.ports)
      → IsFleet s played before l.fleet.slots.items l.fleet.second false (g.P.Ports.told l.ports);
  asked : (read_before asked_before : Option (List ℕ)) (calls : ℕ) → AreAsked read_before
      (g.C.Seconds.read l.fn.clock) asked_before (g.P.Ports.asked l.fn.ports) l.fn.fleet.began l.fn.fleet.second calls
      → AreAsked read_before (g.C.Seconds.read l.clock) asked_before (g.P.Ports.asked l.ports) l.fleet.began
      l.fleet.second (calls + l._turn);
  wire : (g.P.Counted.watched l.ports).wire ≡ (g.P.Counted.watched l.fn.ports).wire;
  began : (g.P.Counted.watched l.ports).began ≡ (g.P.Counted.watched l.fn.ports).began;
  repeats : (e : ℕ) → repeats_in (slice_get l.fleet.slots.items e)
      ≡ repeats_in (slice_get l.fn.fleet.slots.items e);
  told : (start : Streams)
      → AreTold l.telling (g.P.Counted.watched l.fn.ports).notes (g.P.Counted.watched l.fn.ports).shown
      l.fn.fleet.second start (g.W.World.seen l.fn.world).streams
      → AreTold l.telling (g.P.Counted.watched l.ports).notes (g.P.Counted.watched l.ports).shown l.fleet.second start
      (g.W.World.seen l.world).streams;
  kept : (before : ℕ → Option Traffic)
      → IsFleet l.part l.asked.play before l.fn.fleet.slots.items l.fn.fleet.second false (g.P.Ports.told l.fn.ports)
      → AreRepeated l.fn.fleet.slots.items (l.asked.play && l.asked.repeat)
      → AreKept l.asked l.part before l.last l.fleet.second (g.W.World.seen l.fn.world).made
      (g.W.World.seen l.world).made;
  none_read : (g.W.World.seen l.world).streams.input ≡ (g.W.World.seen l.fn.world).streams.input;
}
