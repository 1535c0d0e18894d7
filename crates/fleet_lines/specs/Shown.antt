-- What is shown of the datagrams that go through ports.
use Rattle.std.specs.Prelude.{◌≡◌, ℕ, ◌==◌, Bool, true, false, ◌&&◌, List, [], ◌∷◌, ◌++◌, filter, map, Option, None}
use Rattle.std.specs.Prelude.{Result, Ok, Err}
use Rattle.live_link.specs.declared.packet.Packet.{Packet}
use Rattle.live_link.specs.Wire.{WhereTold}
use Rattle.fleet_link.specs.Traffic.{ReceivedPacket, Traffic}
use Rattle.fleet_link.specs.declared.ports.PortsFault.{PortsFault}
use Rattle.fleet_link.specs.declared.ports.Receipt.{Receipt}
use Rattle.fleet_link.specs.declared.ports.Receipt.TheVariants as receipts
use Rattle.fleet_wire.specs.Noting.{goes}
use Rattle.fleet_wire.specs.declared.plan.Direction.{Direction}
use Rattle.fleet_wire.specs.declared.plan.Direction.TheVariants.{In, Out}
use Rattle.fleet_lines.specs.declared.shown.Shown.{Shown}
use Rattle.fleet_lines.specs.declared.shown.TakenShown.{TakenShown, Nothing, Then'}
use Rattle.fleet_lines.specs.declared.tape.Tape.{Tape}

-- whether it is a datagram of this device that goes this way
abbrev pub is_way_of : Direction → ℕ → Shown → Bool
is_way_of direction e x = (x.device == e) && goes direction x.direction

abbrev pub heard_as : Shown → ReceivedPacket
heard_as x = record { second = x.second; packet = x.packet }

abbrev pub packet_as : Shown → Packet
packet_as x = x.packet

-- those that a device received, each with its second, and those that it sent
abbrev pub received_shown : ℕ → List Shown → List ReceivedPacket
received_shown e xs = map heard_as (filter (is_way_of In e) xs)

abbrev pub sent_shown : ℕ → List Shown → List Packet
sent_shown e xs = map packet_as (filter (is_way_of Out e) xs)

-- so much more went through the port of a device: what is shown of it, in order
pub record AreShownOf (e : ℕ) (xs : List Shown) (old new : Traffic) : Type 0 where
  pub received : new.handed ≡ old.handed ++ received_shown e xs
  pub sent : new.sent ≡ old.sent ++ sent_shown e xs

-- ports told this before and tell that now: of each device, what went through since is what is shown
abbrev pub AreShown : (ℕ → Option Traffic) → (ℕ → Option Traffic) → List Shown → Type 0
AreShown before after xs = (e : ℕ) → WhereTold (AreShownOf e xs) (before e) (after e)

-- ---- what is kept

-- what was taken
abbrev pub taken_shown : TakenShown → List Shown
taken_shown Nothing = []
taken_shown (Then' at before shown) = taken_shown before ++ shown.value.items

-- all that has gone through, that which was taken first
abbrev pub all_shown : Tape → List Shown
all_shown tape = taken_shown tape.taken ++ tape.shown.items

-- what has arrived at this second is shown
abbrev pub shown_with : ℕ → Receipt → List Shown
shown_with second receipts.Nothing = []
shown_with second (receipts.Arrived arrival) =
    (record { second = second; device = arrival.device; direction = In; packet = arrival.packet }) ∷ []
shown_with second receipts.Dropped = []
shown_with second (receipts.Failed device) = []

abbrev pub shown_by_result : ℕ → Result Receipt PortsFault → List Shown
shown_by_result second (Ok receipt) = shown_with second receipt
shown_by_result second (Err fault) = []

-- ---- what the ports tell

-- this, while there was memory for each datagram
abbrev pub while_whole : {A : Type 0} → Bool → Option A → Option A
while_whole true told = told
while_whole false told = None

-- what is fixed of ports that keep what goes through: what the other ports told when that began, what was taken, and
-- what is fixed of the other ports
pub record FixedShown (A : Type 0) : Type 0 where
  pub began : ℕ → Option Traffic
  pub taken : List Shown
  pub ports : A

abbrev pub fixed_with : {A : Type 0} → (ℕ → Option Traffic) → Tape → A → FixedShown A
fixed_with began tape ports = record { began = began; taken = taken_shown tape.taken; ports = ports }
