-- The device has been served so far, and nothing but its own traffic has gone through any port.
use Rattle.std.proofs.Common.{◌≡◌, ◌-◌, ◌≤◌, ℕ, List, [], Option, None}
use Rattle.device_machine.specs.State.{Machine}
use Rattle.live_link.specs.Wire.{AreRead}
use Rattle.fleet_link.specs.Playing.{Change}
use Rattle.fleet_link.specs.Serving.{IsServing}
use Rattle.fleet_link.specs.Traffic.{Carries, ReceivedPacket, Traffic, no_traffic}
use Rattle.fleet_link.proofs.slot.Slot.pass_to.Given as goal

abbrev pub invariant-loop-self : goal.invariant-loop-self
invariant-loop-self g l = record {
  served : (f : Machine) (before : Option Traffic) (pending : List ReceivedPacket) (changes : List Change)
      → IsServing f before pending changes None l.fn.self.device l.fn.self.second l.fn.self.recording
      (g.P.Ports.told l.fn.ports l.place)
      → IsServing f before pending changes None l.self.device l.self.second l.self.recording
      (g.P.Ports.told l.ports l.place);
  others : (e : ℕ) → (e ≡ l.place → ⊥)
      → Carries (g.P.Ports.told l.fn.ports e) (g.P.Ports.told l.ports e) no_traffic;
  share : l.self.recording.share ≡ l.fn.self.recording.share;
  fixed : g.P.Ports.fixed l.ports ≡ g.P.Ports.fixed l.fn.ports;
  asked : AreRead (g.P.Ports.asked l.fn.ports) (g.P.Ports.asked l.ports) [];
  most : (most : ℕ) → l.fn.self.second ≤ most → l.now ≤ most → l.self.second ≤ most;
  row : l.self.row ≡ l.fn.self.row;
  ended : l.self.end ≡ l.fn.self.end;
}

abbrev pub decreases-loop-self : goal.decreases-loop-self
decreases-loop-self g l = l.now - l.self.second
