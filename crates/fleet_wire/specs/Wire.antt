-- A wire: what it tells, and what it is of what the ports below it tell.
use Rattle.std.specs.Prelude.{◌≡◌, ℕ, ◌+◌, ◌==◌, true, if◌then◌else◌, List, [], ◌∷◌, ◌++◌, Option, None, Some, map}
use Rattle.std.specs.Prelude.{Result, Ok, Err}
use Rattle.live_link.specs.declared.packet.Packet.{Packet}
use Rattle.fleet_link.specs.declared.ports.Arrival.{Arrival}
use Rattle.fleet_link.specs.declared.ports.PortsFault.{PortsFault}
use Rattle.fleet_link.specs.declared.ports.Receipt.{Receipt}
use Rattle.fleet_link.specs.declared.ports.Receipt.TheVariants.{Arrived, Dropped, Failed, Nothing}
use Rattle.fleet_link.specs.Traffic.{Carries, ReceivedPacket, Traffic}
use Rattle.fleet_wire.specs.declared.plan.Direction.TheVariants.{In, Out}
use Rattle.fleet_wire.specs.declared.plan.Plan.{Plan}
use Rattle.fleet_wire.specs.declared.wire.Calls.{Calls, Begun, Asked', Failed'}
use Rattle.fleet_wire.specs.declared.wire.Wire.{Wire}
use Rattle.fleet_wire.specs.declared.note.Note.{Note}
use Rattle.fleet_wire.specs.Lane.{came_by, went_by, AreLanes, ForwardedPacket, IsIdle}
use Rattle.fleet_wire.specs.Noting.{notes_by, notes_going, taken_in}

-- how often the port of a device failed
abbrev pub failures_by : Calls → ℕ → ℕ
failures_by Begun e = 0
failures_by (Asked' at before second) e = failures_by before e
failures_by (Failed' at before device) e = failures_by before e + (if device.value == e then 1 else 0)

-- the seconds at which the wire was asked
abbrev pub seconds_by : Calls → List ℕ
seconds_by Begun = []
seconds_by (Asked' at before second) = seconds_by before ++ second.value ∷ []
seconds_by (Failed' at before device) = seconds_by before

abbrev pub heard_of : ForwardedPacket → ReceivedPacket
heard_of w = record { second = w.second; packet = w.packet }

abbrev pub packet_of : ForwardedPacket → Packet
packet_of w = w.packet

abbrev pub packet_in : ReceivedPacket → Packet
packet_in x = x.packet

-- what went through a wire at the end of a device: what went on to it, and what came from it
abbrev pub near_end : Wire → ℕ → Traffic
near_end wire e =
    record {
      handed = map heard_of (went_by wire.incoming.log e);
      sent = map packet_in (came_by wire.outgoing.log e);
      failures = failures_by wire.calls e;
    }

-- what went through it at the other end: what came for the device, and what went on from it
abbrev pub far_end : Wire → ℕ → Traffic
far_end wire e =
    record {
      handed = came_by wire.incoming.log e;
      sent = map packet_of (went_by wire.outgoing.log e);
      failures = failures_by wire.calls e;
    }

-- what a wire tells of a device. One that had no memory for a datagram tells no more
abbrev pub told_by : Wire → ℕ → Option Traffic
told_by wire e = if wire.whole then Some (near_end wire e) else None

abbrev pub asked_by : Wire → Option (List ℕ)
asked_by wire = Some (seconds_by wire.calls)

-- the notes of a wire, those that were taken first
abbrev pub all_notes : Wire → List Note
all_notes wire = taken_in wire.taken ++ wire.notes.items

-- each datagram that came and does not just go on has its note, and there is no other
pub record AreNoted (plan : Plan) (devices : ℕ) (wire : Wire) : Type 0 where
  pub incoming : notes_going In (all_notes wire) ≡ notes_by plan In devices wire.incoming.log
  pub outgoing : notes_going Out (all_notes wire) ≡ notes_by plan Out devices wire.outgoing.log

-- A wire was put on ports that told this before and tell that now: these carried what went through its other end, and
-- what comes there and what goes on there, each way and for each device, is so as the plan says.
pub record IsWired (plan : Plan) (devices : ℕ) (before after : ℕ → Option Traffic) (wire : Wire) : Type 0 where
  pub plan_is : wire.plan ≡ plan
  pub incoming : AreLanes plan In devices wire.second wire.incoming
  pub outgoing : AreLanes plan Out devices wire.second wire.outgoing
  pub carried : (e : ℕ) → Carries (before e) (after e) (far_end wire e)
  pub noted : AreNoted plan devices wire

-- and nothing that was to be sent by now is held
pub record IsWhole (plan : Plan) (devices : ℕ) (before after : ℕ → Option Traffic) (wire : Wire) : Type 0 where
  pub wired : IsWired plan devices before after wire
  pub sent : IsIdle plan.late_by wire.second wire.outgoing

-- so it is while there is memory for each datagram
abbrev pub IsWire : Plan → ℕ → (ℕ → Option Traffic) → (ℕ → Option Traffic) → Wire → Type 0
IsWire plan devices before after wire = wire.whole ≡ true → IsWhole plan devices before after wire

-- ---- calls

-- what a wire gives that has this for a device, or nothing
abbrev pub hands : Option Arrival → Result Receipt PortsFault
hands None = Ok Nothing
hands (Some arrival) = Ok (Arrived arrival)

-- this holds where nothing was handed out and nothing failed
abbrev pub IsQuietUnless : Result Receipt PortsFault → Type 0 → Type 0
IsQuietUnless (Ok Nothing) claim = claim
IsQuietUnless (Ok (Arrived arrival)) claim = Unit {0}
IsQuietUnless (Ok Dropped) claim = claim
IsQuietUnless (Ok (Failed device)) claim = claim
IsQuietUnless (Err fault) claim = Unit {0}
