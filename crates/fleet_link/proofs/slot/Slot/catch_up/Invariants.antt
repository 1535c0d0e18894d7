-- The device has been served so far, its row is on time, and nothing but its own traffic has gone through any port.
use Rattle.std.proofs.Common.{◌≡◌, ◌≤◌, ℕ, List, [], Option, None}
use Rattle.device_machine.specs.State.{Machine}
use Rattle.live_link.specs.Wire.{AreRead}
use Rattle.fleet_link.specs.Playing.{changes_of, GoesOn, IsOnTime}
use Rattle.fleet_link.specs.Serving.{IsServing}
use Rattle.fleet_link.specs.Traffic.{Carries, ReceivedPacket, Traffic, no_traffic}
use Rattle.fleet_link.proofs.Turning.{steps_left}
use Rattle.fleet_link.proofs.slot.Slot.catch_up.Given as goal

abbrev pub invariant-loop-due : goal.invariant-loop-due
invariant-loop-due g l = record {
  served : (f : Machine) (before : Option Traffic) (pending : List ReceivedPacket)
      → IsServing f before pending (changes_of l.fn.self.row) None l.fn.self.device l.fn.self.second
      l.fn.self.recording (g.P.Ports.told l.fn.ports l.place) → IsOnTime l.fn.self.row l.fn.self.second
      → IsServing f before pending (changes_of l.self.row) None l.self.device l.self.second l.self.recording
      (g.P.Ports.told l.ports l.place);
  on_time : IsOnTime l.fn.self.row l.fn.self.second → IsOnTime l.self.row l.self.second;
  others : (e : ℕ) → (e ≡ l.place → ⊥)
      → Carries (g.P.Ports.told l.fn.ports e) (g.P.Ports.told l.ports e) no_traffic;
  share : l.self.recording.share ≡ l.fn.self.recording.share;
  fixed : g.P.Ports.fixed l.ports ≡ g.P.Ports.fixed l.fn.ports;
  asked : AreRead (g.P.Ports.asked l.fn.ports) (g.P.Ports.asked l.ports) [];
  most : (most : ℕ) → l.fn.self.second ≤ most → l.now ≤ most → l.self.second ≤ most;
  goes_on : GoesOn l.now l.fn.self.row l.self.row;
  ended : l.self.end ≡ l.fn.self.end;
}

abbrev pub decreases-loop-due : goal.decreases-loop-due
decreases-loop-due g l = steps_left l.now l.self.row
