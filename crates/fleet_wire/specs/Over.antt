-- A wire on ports: what devices receive and send, of what the ports carry.
use Rattle.std.specs.Prelude.{◌≡◌, ℕ, List, Option, Some}
use Rattle.fleet_link.specs.declared.directory.FixedServer.{FixedServer}
use Rattle.fleet_link.specs.Traffic.{Traffic, no_traffic}
use Rattle.fleet_wire.specs.declared.note.Note.{Note}
use Rattle.fleet_wire.specs.declared.plan.Plan.{Plan}
use Rattle.fleet_wire.specs.declared.wire.Wire.{Wire}
use Rattle.fleet_wire.specs.Wire.{all_notes, near_end, IsWhole}

-- nothing has gone through them yet
abbrev pub new_ports : ℕ → Option Traffic
new_ports e = Some no_traffic

-- what is fixed of a wire on ports over UDP, and the notes that were taken of it
pub record FixedWire : Type 0 where
  pub plan : Plan
  pub devices : ℕ
  pub taken : List Note
  pub servers : List FixedServer

-- Ports of n devices carried this, from their first datagram on, and devices received and sent that: it is what a wire
-- made of the one, by this plan; and these are its notes.
pub record IsOverWire (plan : Plan) (devices : ℕ) (notes : List Note) (carried told : ℕ → Traffic) : Type 0 where
  pub wire : Wire
  pub whole : IsWhole plan devices new_ports (λ e. Some (carried e)) wire
  pub told_is : (e : ℕ) → told e ≡ near_end wire e
  pub notes_are : all_notes wire ≡ notes
